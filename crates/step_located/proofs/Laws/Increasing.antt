-- The offers of a settled process stand in the order of their positions ("Steps").
use Prim.Native.Nat.{ℕ, ◌+◌, ◌≤◌, ◌<◌}
use native.Mathlib.Omega.{arith}
use native.Mathlib.Nat.{le_refl, le_trans}
use mathlib.Core.Bool.{true, false}
use mathlib.Core.List.{List, [], ◌∷◌, ◌++◌}
use Rattle.meaning.specs.Messages.Normal.{equal}
use Rattle.meaning.specs.Bytes.Process.{Process}
use Rattle.meaning.specs.Places.{Every, none, ◌also◌}
use Rattle.meaning.specs.Steps.State.{Bound, written, names}
use Rattle.meaning.proofs.Every.{every_map}
use Rattle.state_record.specs.Place.{then_at, else_at, right_at}
use Rattle.step_located.specs.Located.{LocatedOffer, located_offers}
use Rattle.step_located.proofs.Laws.Located.{Part, new_part, then_part, else_part, let_part, left_part, repl_part}
use Rattle.step_located.proofs.Laws.Located.{inside_bounds, acting_inside}

-- Each position is above those before it, and none is below low.
pub data Increasing : ℕ → List LocatedOffer → Type 0 where
  end : {low : ℕ} → Increasing low []
  first : {low : ℕ} {a : LocatedOffer} {xs : List LocatedOffer} → low ≤ a.place → Increasing (a.place + 1) xs → Increasing low (a ∷ xs)

pub increasing_lower : {low high : ℕ} {xs : List LocatedOffer} → low ≤ high → Increasing high xs → Increasing low xs
increasing_lower le end = end
increasing_lower le (first l h) = first (le_trans le l) h

pub increasing_above : {low : ℕ} {xs : List LocatedOffer} → Increasing low xs → Every (λ a. low ≤ a.place) xs
increasing_above end = none
increasing_above (first l h) = l also every_map (λ a m. omega arith) (increasing_above h)

-- Positions below mid, and then positions from mid on.
pub increasing_joined : {low mid : ℕ} {xs ys : List LocatedOffer} → low ≤ mid → Increasing low xs → Every (λ a. a.place < mid) xs
    → Increasing mid ys → Increasing low (xs ++ ys)
increasing_joined le end below g = increasing_lower le g
increasing_joined le (first l h) (b also below) g = first l (increasing_joined (omega arith) h below g)

part_increasing : {at at' : ℕ} {P P' : Process} {xs : List LocatedOffer} → Part at P at' P' → Increasing at' xs → Increasing at xs
part_increasing part h = increasing_lower (omega arith) h

pub acting_increasing : (P : Process) (at : ℕ) (ρ : Bound) (n k : ℕ) → Increasing at (located_offers P at ρ n k)
unfolding located_offers
acting_increasing Process.nil at ρ n k = end
acting_increasing (Process.new P) at ρ n k = part_increasing (new_part at P) (acting_increasing P _ _ _ k)
acting_increasing (Process.act p P) at ρ n k = first (le_refl at) end
acting_increasing (Process.if M N P Q) at ρ n k =
    elim (equal (written ρ M) (written ρ N)) as (λ b.
    Increasing at (elim b [ true ↦ located_offers P (then_at at M N) ρ n k | false ↦ located_offers Q (else_at at M N P) ρ n k ])) [
      | true ↦ part_increasing (then_part at M N P Q) (acting_increasing P _ ρ n k)
      | false ↦ part_increasing (else_part at M N P Q) (acting_increasing Q _ ρ n k)
    ]
acting_increasing (Process.let_in M P) at ρ n k = part_increasing (let_part at M P) (acting_increasing P _ _ n k)
acting_increasing (Process.par P Q) at ρ n k =
    increasing_joined (omega arith) (part_increasing (left_part at P Q) (acting_increasing P _ ρ n k))
    (every_map (λ a e. (inside_bounds a.place (at + 1) P e).1) (acting_inside P (at + 1) ρ n k))
    (acting_increasing Q (right_at at P) ρ (names P ρ n) k)
acting_increasing (Process.repl P) at ρ n k = part_increasing (repl_part at P) (acting_increasing P _ ρ _ _)
