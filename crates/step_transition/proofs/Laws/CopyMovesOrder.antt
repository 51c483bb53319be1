-- The offers of a copy stand in the order of their positions ("Steps").
use Prim.Native.Nat.{ℕ, ◌+◌, ◌-◌}
use native.Mathlib.Omega.{arith}
use native.Mathlib.Nat.{le_refl}
use mathlib.Core.Bool.{Bool, true, false}
use mathlib.Core.List.{List, [], ◌∷◌, ◌++◌}
use lib.Dec.{eqb}
use Rattle.meaning.specs.Messages.Normal.{equal}
use Rattle.meaning.specs.Bytes.Process.{Process}
use Rattle.meaning.specs.Places.{Every, none, ◌also◌}
use Rattle.meaning.specs.Steps.State.{Bound, written, names}
use Rattle.meaning.proofs.Every.{every_map, every_joined}
use Rattle.state_record.specs.Place.{then_at, else_at, right_at}
use Rattle.state_task.specs.declared.task.CopyAt.{CopyAt}
use Rattle.step_located.specs.Located.{LocatedOffer, located_offers, inside}
use Rattle.step_located.specs.CopyStep.{located_offers_except}
use Rattle.step_located.specs.Sought.{offers_except, Opened}
use Rattle.step_located.proofs.Laws.Located.{Part, new_part, then_part, else_part, let_part, left_part, right_part, repl_part}
use Rattle.step_located.proofs.Laws.Located.{Inside, inside_bounds, at_inside, acting_inside, part_every}
use Rattle.step_located.proofs.Laws.Increasing.{Increasing, end, first, increasing_lower, increasing_joined, acting_increasing}
use Rattle.step_transition.specs.CopyOffers.{copy_offers}

-- What is said of a part of a process, said of the whole.
part_lower : {at at' : ℕ} {P P' : Process} {xs : List LocatedOffer} → Part at P at' P' → Increasing at' xs → Increasing at xs
part_lower part h = increasing_lower (omega (arith, part.behind)) h

-- Offers in the order of their positions, each of which is one of the process.
record Ordered (at : ℕ) (P : Process) (xs : List LocatedOffer) : Type 0 where
  within : Every (Inside at P) xs
  rising : Increasing at xs

ordered_none : (at : ℕ) (P : Process) → Ordered at P []
ordered_none at P = record { within = none; rising = end }

part_ordered : {at at' : ℕ} {P P' : Process} {xs : List LocatedOffer} → Part at P at' P' → Ordered at' P' xs → Ordered at P xs
part_ordered part o = record { within = part_every part o.within; rising = part_lower part o.rising }

acting_ordered : (P : Process) (at : ℕ) (ρ : Bound) (n k : ℕ) → Ordered at P (located_offers P at ρ n k)
acting_ordered P at ρ n k = record { within = acting_inside P at ρ n k; rising = acting_increasing P at ρ n k }

ordered_both : (at : ℕ) (P Q : Process) {xs ys : List LocatedOffer} → Ordered (at + 1) P xs → Ordered (right_at at P) Q ys
    → Ordered at (Process.par P Q) (xs ++ ys)
ordered_both at P Q o u =
    record {
      within = every_joined (part_every (left_part at P Q) o.within) (part_every (right_part at P Q) u.within);
      rising =
          increasing_joined (omega arith) (part_lower (left_part at P Q) o.rising)
          (every_map (λ a e. (inside_bounds a.place (at + 1) P e).1) o.within) u.rising;
    }

-- Those of the threads that do not have the position x in them.
but_ordered : (x : ℕ) (P : Process) (at : ℕ) (ρ : Bound) (n k : ℕ) → Ordered at P (located_offers_except x P at ρ n k)
unfolding located_offers_except
but_ordered x Process.nil at ρ n k = ordered_none at Process.nil
but_ordered x (Process.new P) at ρ n k = part_ordered (new_part at P) (but_ordered x P _ _ _ k)
but_ordered x (Process.act p P) at ρ n k = of (eqb at x)
  where
    of : (b : Bool) → Ordered at (Process.act p P)
        (elim b [ true ↦ [] | false ↦ record { place = at; bound = ρ; prefix = p; rest = P; next = k } ∷ [] ])
    of true = ordered_none at (Process.act p P)
    of false = record { within = at_inside at (Process.act p P) also none; rising = first (le_refl at) end }
but_ordered x (Process.if M N P Q) at ρ n k =
    elim (equal (written ρ M) (written ρ N)) as (λ b.
    Ordered at (Process.if M N P Q)
    (elim b [ true ↦ located_offers_except x P (then_at at M N) ρ n k | false ↦ located_offers_except x Q (else_at at M N P) ρ n k ])) [
      | true ↦ part_ordered (then_part at M N P Q) (but_ordered x P _ ρ n k)
      | false ↦ part_ordered (else_part at M N P Q) (but_ordered x Q _ ρ n k)
    ]
but_ordered x (Process.let_in M P) at ρ n k = part_ordered (let_part at M P) (but_ordered x P _ _ n k)
but_ordered x (Process.par P Q) at ρ n k = ordered_both at P Q (but_ordered x P _ ρ n k) (but_ordered x Q _ ρ _ k)
but_ordered x (Process.repl P) at ρ n k = of (inside x (at + 1) P)
  where
    of : (b : Bool) → Ordered at (Process.repl P) (elim b [ true ↦ [] | false ↦ located_offers P (at + 1) ρ k (names P ρ k) ])
    of true = ordered_none at (Process.repl P)
    of false = part_ordered (repl_part at P) (acting_ordered P (at + 1) ρ k (names P ρ k))

-- So all offers that a traversal seeks among, whichever these are.
offers_rising : (excluded : ℕ) (P : Process) (at : ℕ) (ρ : Bound) (n k : ℕ) → Increasing at (offers_except excluded P at ρ n k)
unfolding offers_except
offers_rising excluded P at ρ n k =
    elim (eqb excluded 0) as (λ b. Increasing at (elim b [ true ↦ located_offers P at ρ n k | false ↦ located_offers_except (excluded - 1) P at ρ n k ])) [
      | true ↦ acting_increasing P at ρ n k
      | false ↦ (but_ordered (excluded - 1) P at ρ n k).rising
    ]

pub copy_rising : (excluded : ℕ) (c : CopyAt) (w : Opened) → Increasing (w.place + 1) (copy_offers excluded c w)
unfolding copy_offers
copy_rising excluded c w = of (eqb c.arity 0) (eqb c.arity 1)
  where
    list : (n k : ℕ) → List LocatedOffer
    list n k = offers_except excluded w.copied (w.place + 1) w.bound n k

    rises : (n k : ℕ) → Increasing (w.place + 1) (list n k)
    rises n k = offers_rising excluded w.copied (w.place + 1) w.bound n k

    of : (a b : Bool) → Increasing (w.place + 1) (elim a [
      | true ↦ list w.opens (names w.copied w.bound w.opens)
      | false ↦ elim b [
        | true ↦ list w.opens c.second
        | false ↦ list c.second (names w.copied w.bound c.second)
      ]
    ])
    of true b = rises _ _
    of false true = rises _ _
    of false false = rises _ _
