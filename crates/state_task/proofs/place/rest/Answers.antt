-- `state_task::place::rest` meets its contract.
use Rattle.std.proofs.Common.{rules}
use Rattle.state_task.proofs.Laws.Rest.{rests}
use Rattle.state_task.proofs.place.rest.Goals as goal

pub returns-in-Ok-Output : goal.returns-in-Ok-Output
returns-in-Ok-Output c = search (rules, rests)

pub returns-in_default : goal.returns-in_default
returns-in_default c = search (rules, rests)
