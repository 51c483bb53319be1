-- `decode_layout::ends::terms` meets its contract. The loop knows how many terms are left, and that they are few enough to count.
use Rattle.meaning.specs.Bytes.Encoding.{encode_term}
use Rattle.decode_layout.proofs.Laws.Standing.{Traversed}
use Rattle.std.proofs.Common.{◌≤◌, ◌+◌, ◌-◌, length}
use Rattle.decode_layout.proofs.ends.terms.Given as goal

abbrev pub invariant-loop-left : goal.invariant-loop-left
invariant-loop-left l = Traversed encode_term l.s l.at l.count l.i l.left × (l.at ≤ l.i) × (l.left ≤ length l.s + l.i)

-- proposed from the loop's first test
abbrev pub decreases-loop-left : goal.decreases-loop-left
decreases-loop-left l = length l.s - l.i
