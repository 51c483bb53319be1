-- Kinds are refused truly: 4 and 7 ("Turned back for the input").
use Prim.Native.Nat.{ℕ, zero, suc, ◌≤◌, ◌<◌}
use mathlib.Core.Path.{◌≡◌, refl}
use mathlib.Core.Bool.{Bool, not}
use mathlib.Core.List.{List, [], ◌∷◌}
use mathlib.Core.Option.{Option, none, some}
use native.Mathlib.Omega.{arith}
use lib.Dec.{T}
use lib.ListN.{length, get_elem?}
use Rattle.meaning.specs.Bytes.Number.{Read, and_then, number}
use Rattle.meaning.specs.Bytes.Reading.{kind, listed, never}
use Rattle.meaning.specs.Bytes.Refusal.{Field, Due, Unlisted, TooDeep, unlisted_kind, too_deep}
use Rattle.meaning.proofs.Bytes.Reader.{holds, fails, and-then, by_provided}
use Rattle.meaning.proofs.Bytes.Refusal.Sound.{Sound}
use Rattle.meaning.proofs.Bytes.Refusal.Number.{number_sound}

-- What is listed is under the length, and what is not is past it.
listed_lt : {K : Type 0} (kinds : List K) (n : ℕ) {k : K} → get_elem? kinds n ≡ some k → n < length kinds
listed_lt [] n e = let z : ◌≡◌ {A = ℕ} 0 1 = cc in omega arith
listed_lt (k ∷ kinds) zero e = omega arith
listed_lt (k ∷ kinds) (suc n) e = let h : n < length kinds = listed_lt kinds n e in omega arith

unlisted_le : {K : Type 0} (kinds : List K) (n : ℕ) → get_elem? kinds n ≡ none → length kinds ≤ n
unlisted_le [] n e = omega arith
unlisted_le (k ∷ kinds) zero e = let z : ◌≡◌ {A = ℕ} 0 1 = cc in omega arith
unlisted_le (k ∷ kinds) (suc n) e = let h : length kinds ≤ n = unlisted_le kinds n e in omega arith

-- A kind stands here: its number is read and listed, and it is allowed.
abbrev Stands : {K : Type 0} (s : List ℕ) (at : ℕ) → List K → (K → Bool) → K → (end : ℕ) → Type 0
Stands s at kinds allowed k end = (n : ℕ) × (number s at ≡ Read.found n end) × (get_elem? kinds n ≡ some k) × T (allowed k)

module _ {s : List ℕ} {root f : Field} {fs : List Field} {at : ℕ} (d : Due s root at (f ∷ fs)) {K : Type 0} (kinds : List K)
    (unlisted : (n : ℕ) → length kinds ≤ n → Unlisted f n) where
  pub kind_sound : (allowed : K → Bool)
      → ((n : ℕ) (k : K) → get_elem? kinds n ≡ some k → T (not (allowed k)) → TooDeep f n)
      → Sound s root (Stands s at kinds allowed) (kind kinds allowed s at)
  unfolding kind
  kind_sound allowed deep =
      and-then (number_sound d) (λ n end read. and-then (named n end read (get_elem? kinds n) refl)
      (λ k end (read, is). by_provided (allowed k) _ _ _ _ (λ t. (n, read, is, t)) (λ t. too_deep d read (deep n k is t))))
    where
      named : (n end : ℕ) → number s at ≡ Read.found n end → (o : Option K) → get_elem? kinds n ≡ o
          → Sound s root (λ k end. (number s at ≡ Read.found n end) × (get_elem? kinds n ≡ some k)) (listed o at end)
      named n end read none e = fails (unlisted_kind d read (unlisted n (unlisted_le kinds n e)))
      named n end read (some k) e = holds (read, e)

  -- A node past the limit of its path.
  pub never_sound : {A : Type 0} {P : A → ℕ → Type 0} → ((n : ℕ) → n < length kinds → TooDeep f n)
      → Sound s root P (and_then (kind kinds never s at) (λ k end. Read.refused 7 at))
  never_sound deep = and-then (kind_sound never (λ n k is t. deep n (listed_lt kinds n is))) (λ k end h. absurd h.3)
