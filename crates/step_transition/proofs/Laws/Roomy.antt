-- Room for traversals of the threads of a state ("Steps").
use mathlib.Core.Path.{◌≡◌}
use mathlib.Core.List.{List}
use Prim.Native.Nat.{ℕ}
use native.Mathlib.Omega.{arith}
use lib.ListN.{length}
use Rattle.buffer.specs.Buffer.{Within}
use Rattle.step_transition.specs.CopyMoves.{Roomy}

-- It stays.
pub still_roomy : {s out out₁ m m₁ message message₁ : List ℕ} {k to low high low₁ high₁ : ℕ} → Within low high m m₁ → Within low₁ high₁ out out₁
    → length message₁ ≡ length message → Roomy s out m message k to → Roomy s out₁ m₁ message₁ k to
still_roomy wm wo e o = record {
  short = o.short;
  wide = omega (arith, o.wide, wm.long);
  room = omega (arith, o.room, wo.long);
  few = o.few;
  long = omega (arith, o.long);
}
