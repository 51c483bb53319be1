-- `step_between::between::between` and `onward` meet their contracts. The measure is how much is left of the records and of the model in the first of
-- them.
use Rattle.std.proofs.Common.{◌+◌, ◌-◌, ◌*◌}
use Rattle.step_between.proofs.between.+pairing.Given as goal

abbrev pub decreases-between : goal.decreases-between
decreases-between l = 2 * (37000 * (l.to - l.at) + (37000 - l.x))

abbrev pub decreases-onward : goal.decreases-onward
decreases-onward l = 2 * (37000 * (l.to - l.sender.at) + (37000 - l.sender.done.mark)) + 1
