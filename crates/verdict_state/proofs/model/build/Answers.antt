-- `verdict_state::model::build` meets its contract.
use Rattle.std.proofs.Common.{rules}
use Rattle.verdict_state.proofs.Laws.Model.{judges_model}
use Rattle.verdict_state.proofs.model.build.Goals as goal

pub returns-clause-less : goal.returns-clause-less
returns-clause-less c = search (rules, judges_model)

pub returns-clause-judges_model : goal.returns-clause-judges_model
returns-clause-judges_model c = search (rules, judges_model)
