-- `state_task::place::contains` meets its contract.
use Rattle.std.proofs.Common.{rules}
use Rattle.state_task.proofs.Laws.Place.{marks}
use Rattle.state_task.proofs.place.contains.Goals as goal

pub returns-then-at-mark : goal.returns-then-at-mark
returns-then-at-mark c = search (rules, marks)

pub returns-else-at-mark : goal.returns-else-at-mark
returns-else-at-mark c = search (rules, marks)
