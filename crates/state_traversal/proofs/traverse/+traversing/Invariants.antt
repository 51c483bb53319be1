-- The traversal of a process meets its contract: `state_traversal::traverse::traverse` and the functions for each kind of process and for the copies of a repl
-- thread call each other. The measure is the number of process nodes left, twelve steps to a node.
use Rattle.std.proofs.Common.{◌+◌, ◌*◌}
use Rattle.state_traversal.proofs.traverse.+traversing.Given as goal

abbrev pub decreases-act : goal.decreases-act
decreases-act l = 12 * l.left + 7

abbrev pub decreases-both : goal.decreases-both
decreases-both l = 12 * l.left + 8

abbrev pub decreases-copy : goal.decreases-copy
decreases-copy l = 12 * l.left + 4

abbrev pub decreases-enter : goal.decreases-enter
decreases-enter l = 12 * l.left + 5

abbrev pub decreases-follow : goal.decreases-follow
decreases-follow l = 12 * l.left + 5

abbrev pub decreases-inside : goal.decreases-inside
decreases-inside l = 12 * l.left + 11

abbrev pub decreases-node : goal.decreases-node
decreases-node l = 12 * l.head.left + 9

abbrev pub decreases-pair : goal.decreases-pair
decreases-pair l = 12 * l.left + 6

abbrev pub decreases-perform : goal.decreases-perform
decreases-perform l = 12 * l.left + 7

abbrev pub decreases-prefix : goal.decreases-prefix
decreases-prefix l = 12 * l.left + 8

abbrev pub decreases-receive : goal.decreases-receive
decreases-receive l = 12 * l.left + 6

abbrev pub decreases-repl : goal.decreases-repl
decreases-repl l = 12 * l.left + 8

abbrev pub decreases-traverse : goal.decreases-traverse
decreases-traverse l = 12 * l.left + 10
