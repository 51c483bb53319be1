-- The traversal that builds meets its contract: `state_build::build::build` and the functions for a head, a par, a repl thread and its copy call each
-- other. The measure is the number of process nodes left, seven steps to a node.
use Rattle.std.proofs.Common.{◌+◌, ◌*◌}
use Rattle.state_build.proofs.build.+building.Given as goal

abbrev pub decreases-both : goal.decreases-both
decreases-both l = 7 * l.left + 3

abbrev pub decreases-build : goal.decreases-build
decreases-build l = 7 * l.left + 5

abbrev pub decreases-copy : goal.decreases-copy
decreases-copy l = 7 * l.left + 1

abbrev pub decreases-enter : goal.decreases-enter
decreases-enter l = 7 * l.left + 2

abbrev pub decreases-inside : goal.decreases-inside
decreases-inside l = 7 * l.left + 6

abbrev pub decreases-node : goal.decreases-node
decreases-node l = 7 * l.head.left + 4

abbrev pub decreases-repl : goal.decreases-repl
decreases-repl l = 7 * l.left + 3
