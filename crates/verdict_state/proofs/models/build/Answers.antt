-- `verdict_state::models::build` meets its contract.
use Rattle.std.proofs.Common.{rules}
use Rattle.verdict_state.proofs.Laws.Judged.{judges_both}
use Rattle.verdict_state.proofs.models.build.Goals as goal

pub returns-clause-judges_both : goal.returns-clause-judges_both
returns-clause-judges_both c = search (rules, judges_both)
