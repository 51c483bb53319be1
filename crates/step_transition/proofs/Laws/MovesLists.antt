-- Laws of lists: functions that give lists, those elements that pass a test, and elements with their numbers ("Steps").
use Prim.Native.Nat.{ℕ, ◌+◌, ◌≤◌, ◌<◌}
use native.Mathlib.Omega.{arith}
use mathlib.Core.Path.{◌≡◌, refl, sym, ◌∙◌, ap, ap₂}
use mathlib.Core.Bool.{Bool, true, false}
use mathlib.Core.List.{List, [], ◌∷◌, ◌++◌, map, append_assoc, flat_map}
use lib.ListN.{length}
use Rattle.meaning.specs.Places.{Every, none, ◌also◌}
use Rattle.meaning.proofs.Test.{chosen as tested}
use Rattle.step_located.proofs.Laws.Block.{flat_map_append}
use Rattle.step_transition.specs.Focus.{filter}

module _ {A B : Type 0} where
  pub flat_map_flat_map : {C : Type 0} (f : B → List C) (g : A → List B) (xs : List A)
      → flat_map f (flat_map g xs) ≡ flat_map (λ x. flat_map f (g x)) xs
  unfolding flat_map
  flat_map_flat_map f g [] = refl
  flat_map_flat_map f g (x ∷ xs) = flat_map_append f (g x) (flat_map g xs) ∙ ap (λ r. flat_map f (g x) ++ r) (flat_map_flat_map f g xs)

  -- A function that gives nothing.
  pub flat_map_none : (f : A → List B) → ((x : A) → f x ≡ []) → (xs : List A) → flat_map f xs ≡ []
  unfolding flat_map
  flat_map_none f e [] = refl
  flat_map_none f e (x ∷ xs) = ap₂ ◌++◌ (e x) (flat_map_none f e xs)

  -- One that gives one element where a test is passed, and none otherwise.
  pub flat_map_filter : (test : A → Bool) (f : A → List B) (g : A → B)
      → ((x : A) → f x ≡ elim (test x) [ true ↦ g x ∷ [] | false ↦ [] ]) → (xs : List A) → flat_map f xs ≡ map g (filter test xs)
  unfolding flat_map filter
  flat_map_filter test f g e [] = refl
  flat_map_filter test f g e (x ∷ xs) =
      ap₂ ◌++◌ (e x) (flat_map_filter test f g e xs) ∙ tested (λ u v. u ++ map g (filter test xs) ≡ map g v) (test x) refl refl

-- A list for each of those elements that pass a test.
pub flat_map_kept : {A B : Type 0} (test : A → Bool) (f g : A → List B) → ((x : A) → g x ≡ elim (test x) [ true ↦ f x | false ↦ [] ])
    → (xs : List A) → flat_map f (filter test xs) ≡ flat_map g xs
unfolding flat_map filter
flat_map_kept test f g e [] = refl
flat_map_kept test f g e (x ∷ xs) =
    tested (λ u v. flat_map f u ≡ v ++ flat_map f (filter test xs)) (test x) refl refl
    ∙ ap₂ ◌++◌ (sym (e x)) (flat_map_kept test f g e xs)

-- What holds of every element that passes a test.
pub every_filter : {A : Type 0} {Q : A → Type 0} (test : A → Bool) {xs : List A} → Every (λ x. test x ≡ true → Q x) xs → Every Q (filter test xs)
unfolding filter
every_filter test none = none
every_filter {Q = Q} test (◌also◌ {x = x} {xs = xs} h hs) = by_test (every_filter test hs) (test x) refl
  where
    by_test : Every Q (filter test xs) → (b : Bool) → test x ≡ b → Every Q (elim b [ true ↦ x ∷ filter test xs | false ↦ filter test xs ])
    by_test r true e = h e also r
    by_test r false e = r

module _ {A : Type 0} (test : A → Bool) where
  pub filter_append : (xs ys : List A) → filter test (xs ++ ys) ≡ filter test xs ++ filter test ys
  unfolding filter
  filter_append [] ys = refl
  filter_append (x ∷ xs) ys =
      tested (λ u v. u ≡ v ++ filter test ys) (test x) (ap (λ r. x ∷ r) (filter_append xs ys)) (filter_append xs ys)

  pub filter_all : {xs : List A} → Every (λ x. test x ≡ true) xs → filter test xs ≡ xs
  unfolding filter
  filter_all none = refl
  filter_all (◌also◌ {x = x} {xs = xs} e es) =
      ap (λ b. elim b [ true ↦ x ∷ filter test xs | false ↦ filter test xs ]) e ∙ ap (λ r. x ∷ r) (filter_all es)

-- What g gives for the elements of a list, numbered from n on.
module _ {A B : Type 0} (g : ℕ → A → List B) where
  unfoldable pub numbered : (n : ℕ) → List A → List B
  numbered n [] = []
  numbered n (t ∷ ts) = g n t ++ numbered (n + 1) ts

  pub numbered_append : (n : ℕ) (xs ys : List A) → numbered n (xs ++ ys) ≡ numbered n xs ++ numbered (n + length xs) ys
  unfolding numbered
  numbered_append n [] ys = ap (λ m. numbered m ys) (omega arith)
  numbered_append n (x ∷ xs) ys =
      let e : n + 1 + length xs ≡ n + length (x ∷ xs) = omega arith in
      ap (λ r. g n x ++ r) (numbered_append (n + 1) xs ys ∙ ap (λ m. numbered (n + 1) xs ++ numbered m ys) e)
      ∙ sym (append_assoc (g n x) (numbered (n + 1) xs) _)

  pub numbered_cut : (n : ℕ) (l : List A) (t : A) (r : List A)
      → numbered n (l ++ (t ∷ r)) ≡ numbered n l ++ (g (n + length l) t ++ numbered (n + length l + 1) r)
  unfolding numbered
  numbered_cut n l t r = numbered_append n l (t ∷ r)

pub numbered_still : {A : Type 0} (g : ℕ → A → List A) (n : ℕ) (ts : List A)
    → ((i : ℕ) (t : A) → n ≤ i → i < n + length ts → g i t ≡ t ∷ []) → numbered g n ts ≡ ts
unfolding numbered
numbered_still g n [] h = refl
numbered_still g n (t ∷ ts) h =
    ap₂ ◌++◌ (h n t (omega arith) (omega arith)) (numbered_still g (n + 1) ts (λ i u low high. h i u (omega arith) (omega arith)))
