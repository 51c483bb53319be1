-- Laws of bytes that stand at a place of a slice ("Bytes").
use mathlib.Core.Path.{◌≡◌, refl, sym, ◌∙◌}
use mathlib.Core.List.{List, [], ◌∷◌, ◌++◌, foldl, append_assoc, append-nil}
use Prim.Native.Nat.{ℕ, ◌+◌, ◌≤◌}
use native.Mathlib.Omega.{arith}
use lib.ListN.{length, drop, length-append, drop_of_length-le}
use lib.Seq.{drop-drop, drop-append_seam, drop-length}
use Rattle.meaning.specs.Bytes.Standing.{Stands}

infixl 65 ◌⨾◌
-- What comes after bytes with which the rest of a slice begins.
after : (s : List ℕ) (at : ℕ) (xs ys : List ℕ) → drop at s ≡ xs ++ ys → drop (at + length xs) s ≡ ys
after s at xs ys e = rw (← drop-drop (length xs) at s, e, drop-append_seam)

-- Bytes with which the rest of a slice begins stand there.
pub stands : (s : List ℕ) (at : ℕ) (xs ys : List ℕ) → drop at s ≡ xs ++ ys → Stands s at xs (at + length xs)
stands s at xs ys e = record { bytes = rw (after s at xs ys e) e; size = refl }

-- Bytes that stand one after the other stand in one piece, and the other way round.
pub ◌⨾◌ : {s xs ys : List ℕ} {at mid end : ℕ} → Stands s at xs mid → Stands s mid ys end → Stands s at (xs ++ ys) end
◌⨾◌ {xs} {ys} p q =
    record { bytes = rw (append_assoc, ← q.bytes) p.bytes; size = omega (arith, length-append xs ys) }

split : {s : List ℕ} (xs ys : List ℕ) {at end : ℕ}
    → Stands s at (xs ++ ys) end → (mid : ℕ) × Stands s at xs mid × Stands s mid ys end
split {s} xs ys {at} {end} p =
    let e = rw append_assoc at p.bytes in (
      at + length xs,
      stands s at xs (ys ++ drop end s) e,
      record { bytes = after s at xs (ys ++ drop end s) e; size = omega (arith, length-append xs ys) },
    )

-- The bytes xs and then those of each list of yss stand one after the other.
abbrev pub Row : List ℕ → (at : ℕ) → List ℕ → List (List ℕ) → (end : ℕ) → Type 0
Row s at xs [] end = Stands s at xs end
Row s at xs (ys ∷ yss) end = (mid : ℕ) × Stands s at xs mid × Row s mid ys yss end

split_row : (s : List ℕ) (at : ℕ) (xs ys : List ℕ) (yss : List (List ℕ)) (end : ℕ)
    → Row s at (xs ++ ys) yss end → Row s at xs (ys ∷ yss) end
split_row s at xs ys [] end p = split xs ys p
split_row s at xs ys (zs ∷ zss) end (mid, p, rest) = let (e, q, r) = split xs ys p in (e, q, (mid, r, rest))

-- The parts of bytes that stand in one piece.
pub parts : {s : List ℕ} (xs : List ℕ) (yss : List (List ℕ)) {at end : ℕ}
    → Stands s at (foldl ◌++◌ xs yss) end → Row s at xs yss end
parts xs [] p = p
parts {s} xs (ys ∷ yss) {at} {end} p = split_row s at xs ys yss end (parts (xs ++ ys) yss p)

-- The whole slice stands in itself, and bytes that stand from its start to its end are the whole slice.
pub whole-stands : (s : List ℕ) → Stands s 0 s (length s)
whole-stands s = record { bytes = rw (drop-length, append-nil); size = omega arith }

pub stands-whole : {s xs : List ℕ} {end : ℕ} → Stands s 0 xs end → length s ≤ end → xs ≡ s
stands-whole {s} p h = sym (p.bytes ∙ rw (drop_of_length-le s h, append-nil))
