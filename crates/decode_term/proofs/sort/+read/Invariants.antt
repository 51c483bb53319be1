-- `decode_term::sort::read` meets its contract. The measure of the calls and of the loop is the number of nodes left. The loop knows that
-- the tree asked for has the extent of the one at hand, and what holds on every path.
use Rattle.std.proofs.Common.{◌≡◌, ◌≤◌}
use Rattle.decode_term.specs.Sort.{node_at}
use Rattle.decode_term.proofs.sort.+read.Given as goal

abbrev pub decreases-read : goal.decreases-read
decreases-read g l = g.S.Sort.left l.path

abbrev pub invariant-loop-kind : goal.invariant-loop-kind
invariant-loop-kind g l =
    let m = g.S.Sort in
    (m.tree l.fn.path l.s l.at ≡ node_at m.KINDS m.table m.left m.room m.own m.below m.tree l.inner l.s l.i)
    × m.fits l.inner × (m.left l.inner ≤ m.left l.fn.path)

abbrev pub decreases-loop-kind : goal.decreases-loop-kind
decreases-loop-kind g l = g.S.Sort.left l.inner
