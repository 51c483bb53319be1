-- `state_head::head::descend` meets its contract. The loop goes one node down at a turn.
use Rattle.buffer.specs.Buffer.{Within}
use Rattle.std.proofs.Common.{◌≤◌, length}
use Rattle.std.specs.Prelude.{Some}
use Rattle.state_head.specs.Head.{HasRoom, Descends}
use Rattle.state_head.proofs.head.descend.Given as goal

abbrev pub invariant-loop-m : goal.invariant-loop-m
invariant-loop-m l = (l.head.left ≤ l.left) × (l.end ≤ l.head.end) × Within l.end (length l.initial.m) l.initial.m l.m × HasRoom l.s (length l.m) l.head
    × Descends l.s l.at l.left l.initial.m l.end l.names (Some l.head) l.m

abbrev pub decreases-loop-m : goal.decreases-loop-m
decreases-loop-m l = l.head.left
