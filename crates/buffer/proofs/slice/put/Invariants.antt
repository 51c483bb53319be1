-- `buffer::slice::put` meets its contract. The loop has copied as many bytes as it has gone round.
use Rattle.std.proofs.Common.{◌≡◌}
use Rattle.std.proofs.Math.Seq.{paste}
use Rattle.buffer.proofs.slice.put.Given as goal

abbrev pub invariant-loop-i : goal.invariant-loop-i
invariant-loop-i l = l.m ≡ paste l.initial.m l.to l.x l.i
