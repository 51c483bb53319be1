-- The private names of a process are counted: `state_head::count::count`, `by_head` and `both`, for a par, call each other. The measure is the
-- number of process nodes left, three steps to a node.
use Rattle.std.proofs.Common.{◌+◌, ◌*◌}
use Rattle.state_head.proofs.count.+counting.Given as goal

abbrev pub decreases-both : goal.decreases-both
decreases-both l = 3 * l.left

abbrev pub decreases-by_head : goal.decreases-by_head
decreases-by_head l = 3 * l.left + 1

abbrev pub decreases-count : goal.decreases-count
decreases-count l = 3 * l.left + 2
