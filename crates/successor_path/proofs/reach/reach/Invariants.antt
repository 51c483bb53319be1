-- `successor_path::reach::reach` meets its contract. The loop goes one node down at a turn.
use Rattle.buffer.specs.Buffer.{Within}
use Rattle.successor_path.specs.Reach.{LeadsOn}
use Rattle.std.proofs.Common.{◌≤◌, length}
use Rattle.successor_path.proofs.reach.reach.Given as goal

abbrev pub invariant-loop-m : goal.invariant-loop-m
invariant-loop-m l = (l.initial.on.end ≤ l.on.end) × (l.on.end ≤ length l.m) × Within l.initial.on.end (length l.initial.m) l.initial.m l.m × LeadsOn l.s l.initial.m l.initial.on l.mark l.on l.m

abbrev pub decreases-loop-m : goal.decreases-loop-m
decreases-loop-m l = l.on.left
