-- `message_bytes::run::size` meets its contract. The loop knows how many parts are left, and that they are few enough to count.
use Rattle.decode_layout.proofs.Laws.Standing.{Traversed}
use Rattle.message_bytes.specs.Encoding.{encode_message}
use Rattle.std.proofs.Common.{◌*◌, ◌≤◌, length, ◌+◌, ◌-◌}
use Rattle.message_bytes.proofs.run.size.Given as goal

abbrev pub invariant-loop-left : goal.invariant-loop-left
invariant-loop-left l = Traversed encode_message l.m 0 1 (2 * l.nodes) l.left × (2 * l.nodes ≤ length l.m) × (l.left ≤ 1 + l.nodes)

-- proposed from the loop's first test
abbrev pub decreases-loop-left : goal.decreases-loop-left
decreases-loop-left l = length l.m - l.nodes
