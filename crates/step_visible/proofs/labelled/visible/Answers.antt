-- `step_visible::labelled::visible` meets its contract.
use Rattle.std.proofs.Common.{rules}
use Rattle.state_progress.proofs.Laws.Progress.{to_ends}
use Rattle.step_visible.proofs.Laws.Labelled.{follows}
use Rattle.step_visible.proofs.labelled.visible.Goals as goal

pub returns-then-done-eq0-clause-next_visible : goal.returns-then-done-eq0-clause-next_visible
returns-then-done-eq0-clause-next_visible c = search (rules, to_ends, follows)

pub returns-then-output-clause-next_visible : goal.returns-then-output-clause-next_visible
returns-then-output-clause-next_visible c = search (rules, to_ends, follows)

pub returns-clause-next_visible : goal.returns-clause-next_visible
returns-clause-next_visible c = search (rules, to_ends, follows)
