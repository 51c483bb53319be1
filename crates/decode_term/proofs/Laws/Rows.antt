-- A kind and its number ("Bytes"): a reader that goes by kinds, against a head and parts that go by numbers.
use mathlib.Core.Path.{◌≡◌, refl}
use mathlib.Core.Bool.{Bool, true, false, ◌&&◌}
use mathlib.Core.List.{List, [], ◌∷◌}
use mathlib.Core.Option.{Option, none, some}
use Prim.Native.Nat.{ℕ, zero, suc, ◌≤◌, ◌<◌}
use native.Mathlib.Omega.{arith}
use borrow.Author.Tests.{lt-ltb, le-ltb}
use lib.Dec.{T, ltb}
use lib.ListN.{length, get_elem?}
use Rattle.meaning.specs.Bytes.Number.{Read, and_then, provided, number}
use Rattle.meaning.specs.Bytes.Reading.{listed, kind, never}
use Rattle.decode_number.specs.Answer.{Extent}
use Rattle.decode_layout.specs.declared.layout.Layout.{Layout}
use Rattle.decode_layout.specs.Layout.{parts, layout_of}
use Rattle.decode_number.specs.Bounded.{number_below}
use Rattle.decode_term.specs.Shape.{head_of, times, node}
use Rattle.decode_term.proofs.Laws.Alike.{Alike, both_refused, then_alike, test_alike, then_assoc}

-- Rows are written one after the other, `complete` last.
infixr 5 ◌also◌
abbrev pub ◌also◌ : {A B : Type 0} → A → B → A × B
a also b = (a, b)

abbrev pub complete : Unit {0}
complete = tt

module _ {K A : Type 0} (allowed : K → Bool) (after : K → ℕ → Read A) where
  -- They may stand in the same places, and where they may, what follows is alike.
  abbrev Same : (k : K) (room : Bool) (rest : ℕ → Extent) → Type 0
  Same k room rest = (allowed k ≡ room) × (T (allowed k) → (end : ℕ) → Alike (after k end) (rest end))

  -- The kinds in the order of their numbers.
  abbrev pub Rows : List K → (ℕ → Bool) → (ℕ → ℕ → Extent) → Type 0
  Rows [] room rest = Unit {0}
  Rows (k ∷ kinds) room rest = Same k (room 0) (rest 0) × Rows kinds (λ n. room (suc n)) (λ n. rest (suc n))

  -- What the number n stands for, of so many kinds.
  abbrev Means : (count : ℕ) → Bool → (ℕ → Extent) → ℕ → Option K → Type 0
  Means count room rest n none = count ≤ n
  Means count room rest n (some k) = (n < count) × Same k room rest

  one_more : (count n : ℕ) (room : Bool) (rest : ℕ → Extent) (o : Option K)
      → Means count room rest n o → Means (suc count) room rest (suc n) o
  one_more count n room rest none h = omega arith
  one_more count n room rest (some k) (h, same) = (omega arith, same)

  means : (kinds : List K) (room : ℕ → Bool) (rest : ℕ → ℕ → Extent) → Rows kinds room rest → (n : ℕ)
      → Means (length kinds) (room n) (rest n) n (get_elem? kinds n)
  means [] room rest rows n = omega arith
  means (k ∷ kinds) room rest (same, rows) zero = (omega arith, same)
  means (k ∷ kinds) room rest (same, rows) (suc n) =
      one_more _ _ _ _ (get_elem? kinds n) (means kinds (λ n. room (suc n)) (λ n. rest (suc n)) rows n)

  by_number : (count : ℕ) (room : ℕ → Bool) (rest : ℕ → ℕ → Extent) (n at end : ℕ) (o : Option K)
      → Means count (room n) (rest n) n o → Alike
      (and_then (listed o at end) (λ k end. and_then (provided (allowed k) 7 at k end) after))
      (and_then (provided (ltb n count) 4 at n end) (λ k end. and_then (provided (room k) 7 at k end) rest))
  unfolding and_then
  by_number count room rest n at end none h = rw (le-ltb n count h) both_refused
  by_number count room rest n at end (some k) (h, same) =
      rw (lt-ltb n count h, ← same.0) (test_alike (allowed k) 7 at k n end after rest λ t. same.1 t end)

  -- A head and parts that agree with the kinds row by row are alike to the reader that goes by kinds.
  module _ (kinds : List K) (left : ℕ) (room : ℕ → Bool) (own : ℕ → ℕ → Extent) (table : List Layout) (part : ℕ → ℕ → Extent)
      (s : List ℕ) (at : ℕ) where
    by_rows : (allow : Bool) → ltb 0 left ≡ allow
        → Rows kinds (λ n. allow && room n) (λ n end. and_then (own n end) (λ _ end. times (parts (layout_of table n)) (part n) end))
        → Alike (and_then (kind kinds allowed s at) after) (node (head_of (length kinds) left room own s at) table part)
    unfolding kind node head_of number_below and_then
    by_rows allow e rows =
        simp (then_assoc, e) (then_alike (number s at) λ n end.
        by_number (length kinds) (λ n. allow && room n) _ n at end (get_elem? kinds n) (means kinds _ _ rows n))

    pub node_alike : 0 < left
        → Rows kinds room (λ n end. and_then (own n end) (λ _ end. times (parts (layout_of table n)) (part n) end))
        → Alike (and_then (kind kinds allowed s at) after) (node (head_of (length kinds) left room own s at) table part)
    node_alike h rows = by_rows true (lt-ltb 0 left h) rows

-- Where no node is left, no kind may stand, and nothing is asked of what would follow.
module _ {K A : Type 0} (after : K → ℕ → Read A) where
  no_rows : (kinds : List K) (rest : ℕ → ℕ → Extent) → Rows never after kinds (λ n. false) rest
  no_rows [] rest = tt
  no_rows (k ∷ kinds) rest = ((refl, λ t. absurd t), no_rows kinds (λ n. rest (suc n)))

  pub too_deep : (kinds : List K) (room : ℕ → Bool) (own : ℕ → ℕ → Extent) (table : List Layout) (part : ℕ → ℕ → Extent)
      (s : List ℕ) (at : ℕ)
      → Alike (and_then (kind kinds never s at) after) (node (head_of (length kinds) 0 room own s at) table part)
  too_deep kinds room own table part s at =
      by_rows never after kinds 0 room own table part s at false refl (no_rows kinds _)
