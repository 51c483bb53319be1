-- `step_offer::seek::seek` meets its contract. The loop has looked at the records before the position, in vain.
use Rattle.buffer.specs.Buffer.{Within}
use Rattle.step_offer.proofs.Laws.Seek.{Comes}
use Rattle.std.proofs.Common.{◌-◌, ◌≤◌, length}
use Rattle.step_offer.proofs.seek.seek.Given as goal

abbrev pub invariant-loop-i : goal.invariant-loop-i
invariant-loop-i l = Within 0 (length l.initial.m) l.initial.m l.m × Within l.to (length l.initial.out) l.initial.out l.out × Comes l.s l.argument l.at l.to l.quest l.skip l.names l.initial.m l.initial.out l.i l.from l.m l.out
    × (length l.s ≤ 36864) × (l.to ≤ length l.out) × (4 ≤ l.to)

-- proposed from the loop's first test
abbrev pub decreases-loop-i : goal.decreases-loop-i
decreases-loop-i l = l.to - l.i
