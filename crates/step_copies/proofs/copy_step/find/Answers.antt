-- `step_copies::copy_step::find` meets its contract.
use Rattle.std.proofs.Common.{rules}
use Rattle.state_progress.proofs.Laws.Progress.{to_ends}
use Rattle.step_copies.proofs.Laws.Find.{finds}
use Rattle.step_copies.proofs.copy_step.find.Goals as goal

pub returns-clause-finds : goal.returns-clause-finds
returns-clause-finds c = search (rules, to_ends, finds)
