-- A thread that acts itself, and what is left of it ("Steps").
use mathlib.Core.Path.{◌≡◌, refl, sym, ap}
use mathlib.Core.List.{List, [], ◌∷◌, ◌++◌}
use Prim.Native.Nat.{ℕ}
use native.Mathlib.Omega.{arith}
use borrow.Author.Tests.{eq-eqb}
use lib.ListN.{length, length-append}
use Rattle.meaning.specs.Bytes.Process.{Prefix, Process}
use Rattle.meaning.specs.Steps.State.{Bound, Thread, act}
use Rattle.state_record.specs.Record.{Placed}
use Rattle.step_located.specs.Located.{LocatedOffer, replaced_as}
use Rattle.step_transition.specs.Focus.{Focus}
use Rattle.step_transition.specs.Outcome.{replaced_in}
use Rattle.successor_continuation.proofs.Laws.RestsMoves.{Among}

-- The only element of a list.
pub only_one : {A : Type 0} (b a : A) → Among (b ∷ []) a → a ≡ b
only_one {A} b a m = of m.before m.listed
  where
    of : (xs : List A) → b ∷ [] ≡ xs ++ (a ∷ m.after) → a ≡ b
    of [] e = sym cc
    of (x ∷ xs) e = absurd (omega (arith, ap length e, length-append xs (a ∷ m.after)))

-- Such a thread, with its offer.
abbrev pub focus_of : (before : List Placed) → ℕ → Thread → (behind : List Placed) → Focus
focus_of before place u behind = record { before = before; thread = record { place = place; thread = u }; behind = behind }

abbrev pub offer_of : ℕ → Bound → Prefix → Process → ℕ → LocatedOffer
offer_of place ρ q P k = record { place = place; bound = ρ; prefix = q; rest = P; next = k }

-- What follows it stands in its place.
pub own_place : (place : ℕ) (ρ : Bound) (q : Prefix) (P : Process) (k : ℕ) (z : List Placed)
    → replaced_in (record { place = place; thread = act ρ q P }) place k z ≡ z
unfolding replaced_as
own_place place ρ q P k z = rw (eq-eqb place place refl, replaced_as)
