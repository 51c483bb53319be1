-- `message_term::work::work`, `node`, `first` and `rest` meet their contracts: leaves first, then a node over its parts. The measure is
-- the number of term nodes left, three steps to a node. In `rest` two ways meet, with a second part and without one.
use Rattle.std.proofs.Common.{◌+◌, ◌*◌}
use Rattle.message_term.proofs.work.+working.Given as goal

abbrev pub decreases-first : goal.decreases-first
decreases-first l = 3 * l.left + 3

abbrev pub decreases-node : goal.decreases-node
decreases-node l = 3 * l.left + 4

abbrev pub decreases-rest : goal.decreases-rest
decreases-rest l = 3 * l.left + 3

abbrev pub decreases-work : goal.decreases-work
decreases-work l = 3 * l.left + 2
