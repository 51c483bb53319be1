-- `step_copies::copy_step::copy_step`, `begin` and `pass` meet their contracts. The measure is the number of bytes of the records to come, and then how
-- many times one copy or two of a repl thread are still looked at.
use Rattle.std.proofs.Common.{◌+◌, ◌-◌, ◌*◌}
use Rattle.step_copies.proofs.copy_step.+searching.Given as goal

abbrev pub decreases-begin : goal.decreases-begin
decreases-begin l = 20000 * (l.to - l.at) + 3 * l.left + 2

abbrev pub decreases-copy_step : goal.decreases-copy_step
decreases-copy_step l = 20000 * (l.to - l.at) + 3 * l.left

abbrev pub decreases-pass : goal.decreases-pass
decreases-pass l = 20000 * (l.to - l.at) + 3 * l.left + 1
