-- Reading a number at a position ("Bytes"; "Turned back for the input", 2 and 3).
use Rattle.std.specs.Prelude.{ℕ, ◌+◌, ◌-◌, ◌*◌, Bool, true, false, ◌&&◌, List, [], ◌∷◌, leb, ltb, length, drop}

-- What stands at a position and where it ends, or a refusal with its number and place.
pub data Read (A : Type 0) : Type 0 where
  found : A → (end : ℕ) → Read A
  refused : (number place : ℕ) → Read A

unfoldable pub and_then : {A B : Type 0} → Read A → (A → ℕ → Read B) → Read B
and_then (found a end) f = f a end
and_then (refused number place) f = refused number place

-- A value that is refused by this number and place unless the test holds.
abbrev pub provided : {A : Type 0} → Bool → (number place : ℕ) → A → (end : ℕ) → Read A
provided true number place a end = found a end
provided false number place a end = refused number place

-- The second byte of a number that has one: 0 and anything from 128 on is not in the one form.
unfoldable pub second_byte : (size at b : ℕ) → List ℕ → Read ℕ
second_byte size at b [] = refused 2 size
second_byte size at b (c ∷ rest) = provided (leb 1 c && leb c 127) 3 at (b - 128 + 128 * c) (at + 2)

unfoldable pub first_byte_of : (size at : ℕ) → List ℕ → Read ℕ
first_byte_of size at [] = refused 2 size
first_byte_of size at (b ∷ rest) = elim (ltb b 128) [ true ↦ found b (at + 1) | false ↦ second_byte size at b rest ]

unfoldable pub number : List ℕ → ℕ → Read ℕ
number s at = first_byte_of (length s) at (drop at s)
