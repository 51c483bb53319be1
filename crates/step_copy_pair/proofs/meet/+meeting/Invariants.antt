-- `step_copy_pair::meet::meet` and `onward` meet their contracts. The measure is how many positions of the model come after the sender.
use Rattle.std.proofs.Common.{◌+◌, ◌-◌, ◌*◌}
use Rattle.step_copy_pair.proofs.meet.+meeting.Given as goal

abbrev pub decreases-meet : goal.decreases-meet
decreases-meet l = 2 * (36865 - l.x)

abbrev pub decreases-onward : goal.decreases-onward
decreases-onward l = 2 * (36865 - l.sender.mark) + 1
