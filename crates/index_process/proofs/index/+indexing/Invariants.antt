-- `index_process::index::index` and `index_process::index::row`, which call each other, meet their contracts. The measure is the number of process nodes
-- left, two steps to a node.
use Rattle.std.proofs.Common.{◌+◌, ◌*◌}
use Rattle.index_process.proofs.index.+indexing.Given as goal

abbrev pub decreases-index : goal.decreases-index
decreases-index l = 2 * l.left

abbrev pub decreases-row : goal.decreases-row
decreases-row l = 2 * l.left + 1
