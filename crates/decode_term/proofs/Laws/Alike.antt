-- Two answers of readers with one extent: what is found ends at the same position, or the same is refused at the same place
-- ("Turned back for the input").
use mathlib.Core.Path.{◌≡◌, refl}
use mathlib.Core.Bool.{Bool, true, false}
use Prim.Native.Nat.{ℕ, suc}
use lib.Dec.{T}
use Rattle.meaning.specs.Bytes.Number.{Read, found, refused, and_then, provided}
use Rattle.decode_number.specs.Answer.{Extent, extent}
use Rattle.decode_term.specs.Shape.{times}

pub data Alike {A B : Type 0} : Read A → Read B → Type 0 where
  both_end : {a : A} {b : B} {end : ℕ} → Alike (found a end) (found b end)
  both_refused : {number place : ℕ} → Alike (refused number place) (refused number place)

-- The extent of an answer is alike to it, and the only one.
pub same_extent : {A : Type 0} {x : Read A} {y : Extent} → Alike x y → extent x ≡ y
unfolding extent
same_extent both_end = refl
same_extent both_refused = refl

alike_extent : {A : Type 0} (x : Read A) → Alike x (extent x)
unfolding extent
alike_extent (found a end) = both_end
alike_extent (refused number place) = both_refused

-- Readers in a row.
pub then_assoc : (A B C : Type 0) (x : Read A) (f : A → ℕ → Read B) (g : B → ℕ → Read C)
    → and_then (and_then x f) g ≡ and_then x (λ a end. and_then (f a end) g)
unfolding and_then
then_assoc A B C (found a end) f g = refl
then_assoc A B C (refused number place) f g = refl

-- In a row: after alike answers, and after the same answer.
alike_then : {A B C D : Type 0} {x : Read A} {y : Read B} {f : A → ℕ → Read C} {g : B → ℕ → Read D} → Alike x y
    → ((a : A) (b : B) (end : ℕ) → Alike (f a end) (g b end)) → Alike (and_then x f) (and_then y g)
unfolding and_then
alike_then both_end h = h _ _ _
alike_then both_refused h = both_refused

pub then_alike : {A B C : Type 0} (x : Read A) {f : A → ℕ → Read B} {g : A → ℕ → Read C}
    → ((a : A) (end : ℕ) → Alike (f a end) (g a end)) → Alike (and_then x f) (and_then x g)
unfolding and_then
then_alike (found a end) h = h a end
then_alike (refused number place) h = both_refused

-- Behind one test, on which what follows may rely.
pub test_alike : {A B C D : Type 0} (test : Bool) (number place : ℕ) (a : A) (b : B) (end : ℕ) (f : A → ℕ → Read C)
    (g : B → ℕ → Read D) → (T test → Alike (f a end) (g b end))
    → Alike (and_then (provided test number place a end) f) (and_then (provided test number place b end) g)
unfolding and_then
test_alike true number place a b end f g h = h tt
test_alike false number place a b end f g h = both_refused

-- One reader more in front of a row of them, and in front of a row that something follows.
module _ {A B : Type 0} (one : ℕ → Read A) (n at : ℕ) {f : A → ℕ → Read B} where
  pub and_part : ((a : A) (end : ℕ) → Alike (f a end) (times n (λ e. extent (one e)) end))
      → Alike (and_then (one at) f) (times (suc n) (λ e. extent (one e)) at)
  unfolding times
  and_part h = alike_then (alike_extent (one at)) λ a _ end. h a end

  pub and_field : (g : Unit {0} → ℕ → Extent)
      → ((a : A) (end : ℕ) → Alike (f a end) (and_then (times n (λ e. extent (one e)) end) g))
      → Alike (and_then (one at) f) (and_then (times (suc n) (λ e. extent (one e)) at) g)
  unfolding times
  and_field g h = rw then_assoc (alike_then (alike_extent (one at)) λ a _ end. h a end)
