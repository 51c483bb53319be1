-- `successor_next::arrive::led` meets its contract.
use Rattle.std.proofs.Common.{rules}
use Rattle.state_progress.proofs.Laws.Progress.{to_ends}
use Rattle.successor_next.proofs.Laws.Arrive.{leavings}
use Rattle.successor_next.proofs.arrive.led.Goals as goal

pub returns-in-Input-clause-leaves : goal.returns-in-Input-clause-leaves
returns-in-Input-clause-leaves c = search (rules, to_ends, leavings)

pub returns-in-Output : goal.returns-in-Output
returns-in-Output c = search (rules, to_ends, leavings)
