-- The messages that are bound on the way of a traversal ("Steps").
use mathlib.Core.List.{List}
use Prim.Native.Nat.{ℕ}
use native.Mathlib.Omega.{arith}
use Rattle.meaning.specs.Steps.State.{Bound}
use Rattle.buffer.specs.Buffer.{Within}
use Rattle.buffer.proofs.Laws.Buffer.{kept}
use Rattle.message_term.specs.Bound.{BoundTo, BoundAt}

-- The messages of a traversal are bound at its base.
pub bound_at : {m : List ℕ} {end : ℕ} {ρ : Bound} → BoundTo m 0 ρ end → BoundAt m 0 ρ end
bound_at {end} b = record { end = end; bound = b; below = omega arith }

-- A term worked above them leaves them bound.
pub bound_still : {m m₁ : List ℕ} {end high : ℕ} {ρ : Bound} → BoundTo m 0 ρ end → Within end high m m₁ → BoundTo m₁ 0 ρ end
bound_still {m} {m₁} {end} b w = record {
  stands = kept {low = end} b.stands (omega arith) w.below;
  few = b.few;
  normal = b.normal;
}
