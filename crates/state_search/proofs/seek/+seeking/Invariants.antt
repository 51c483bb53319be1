-- The traversal that seeks an offer meets its contract: `state_search::seek::seek` and the functions for a par, a repl thread and its copy call each
-- other. The measure is the number of process nodes left, three steps to a node.
use Rattle.std.proofs.Common.{◌+◌, ◌*◌}
use Rattle.state_search.proofs.seek.+seeking.Given as goal

abbrev pub decreases-both : goal.decreases-both
decreases-both l = 3 * l.left + 1

abbrev pub decreases-copy : goal.decreases-copy
decreases-copy l = 3 * l.left

abbrev pub decreases-repl : goal.decreases-repl
decreases-repl l = 3 * l.left + 1

abbrev pub decreases-seek : goal.decreases-seek
decreases-seek l = 3 * l.left + 2
