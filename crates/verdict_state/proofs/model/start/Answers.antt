-- `verdict_state::model::start` meets its contract.
use Rattle.std.proofs.Common.{rules}
use Rattle.verdict_state.proofs.Laws.Model.{judges_indexed}
use Rattle.verdict_state.proofs.model.start.Goals as goal

pub returns-clause-less : goal.returns-clause-less
returns-clause-less c = search (rules, judges_indexed)

pub returns-clause-judges_indexed : goal.returns-clause-judges_indexed
returns-clause-judges_indexed c = search (rules, judges_indexed)
