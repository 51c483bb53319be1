-- What a list gives cut by cut: its splits are its cuts, and what a list of threads gives thread by thread ("Steps"), by one law for offers and for silent steps.
use Prim.Native.Nat.{ℕ}
use mathlib.Core.Path.{◌≡◌, refl, ◌∙◌, ap, ap₂, fun_ext}
use mathlib.Core.Logic.{inl, inr}
use mathlib.Core.List.{List, [], ◌∷◌, ◌++◌, map, map-map, map-id, flat_map}
use Rattle.meaning.specs.Steps.State.{Thread}
use Rattle.meaning.specs.Steps.Offer.{Split, here, there}
use Rattle.meaning.specs.Steps.Copies.{paired}
use Rattle.meaning.specs.Steps.Enumeration.{Cut, cut, shift, cuts, threads_of}
use Rattle.meaning.proofs.Steps.Enumeration.Places.{Derived, by, Lists, nothing, single, either, inverted, mapped, chained}

-- What stands at a cut, and that the cut is one of the list.
abbrev pub chosen : {A : Type 0} → Cut A → A
chosen (cut l t r) = t

abbrev pub SplitAt : {A : Type 0} → List A → Cut A → Type 0
SplitAt ts (cut l t r) = Split ts l t r

pub cuts_listed : {A : Type 0} (ts : List A) → Lists (Derived (SplitAt ts)) (cuts ts)
unfolding cuts
cuts_listed [] = nothing (λ P. elim [ by (cut l t r) s p ↦ elim s [ ] ])
cuts_listed (t ∷ ts) =
    inverted (either (single (cut [] t ts)) (mapped (shift t) (cuts_listed ts)))
    (λ P. elim [ inl p ↦ by _ here p | inr (by (cut l u r) s p) ↦ by _ (there s) p ])
    (λ P. elim [ by (cut _ _ _) here p ↦ (inl p, refl) | by (cut _ u r) (there {l = l} s) p ↦ (inr (by (cut l u r) s p), refl) ])
    (λ P. elim [ inl p ↦ refl | inr (by (cut l u r) s p) ↦ refl ])

flat_map_map : {A B C : Type 0} (g : B → List C) (f : A → B) (xs : List A) → flat_map g (map f xs) ≡ flat_map (λ x. g (f x)) xs
unfolding flat_map
flat_map_map g f [] = refl
flat_map_map g f (x ∷ xs) = ap (λ r. g (f x) ++ r) (flat_map_map g f xs)

abbrev pub cut_map : {A B : Type 0} → (A → B) → Cut A → Cut B
cut_map f (cut l t r) = cut (map f l) (f t) (map f r)

shift_map : {A B : Type 0} (f : A → B) (t : A) (c : Cut A) → cut_map f (shift t c) ≡ shift (f t) (cut_map f c)
shift_map f t (cut l u r) = refl

pub cuts_map : {A B C : Type 0} (f : A → B) (g : Cut B → List C) (ts : List A)
    → flat_map g (cuts (map f ts)) ≡ flat_map (λ c. g (cut_map f c)) (cuts ts)
unfolding cuts flat_map
cuts_map f g [] = refl
cuts_map f g (t ∷ ts) = simp (flat_map_map, shift_map, cuts_map f (λ c. g (shift (f t) c)) ts)

-- The list with other threads in the place of the one at the cut.
abbrev pub around : Cut Thread → List Thread → List Thread
around (cut l t r) x = l ++ x ++ r

pub threads_paired : {X : Type 0} (f : Thread → X) (ts : List Thread) → threads_of (paired f ts) ≡ ts
threads_paired f ts = map-map _ _ ts ∙ map-id ts

-- What f gives for the threads of a list, n being the next private name, each result put in the place of its thread.
module _ {Y : Type 0} (put : (List Thread → List Thread) → Y → Y) (f : Thread → ℕ → List Y) (n : ℕ) where
  unfoldable pub among : List Thread → List Y
  among ts = flat_map (λ c. map (put (around c)) (f (chosen c) n)) (cuts ts)

  -- The same as the enumeration has it, over threads that come with f.
  abbrev pub at_cut : Cut (Thread × (ℕ → List Y)) → List Y
  at_cut (cut l t r) = map (put (λ x. threads_of l ++ x ++ threads_of r)) (t.1 n)

  pub among_paired : (at : Cut (Thread × (ℕ → List Y)) → List Y) → ((c : Cut (Thread × (ℕ → List Y))) → at c ≡ at_cut c)
      → (ts : List Thread) → flat_map at (cuts (paired f ts)) ≡ among ts
  unfolding among
  among_paired at is ts = cuts_map (λ t. (t, f t)) at ts ∙ ap (λ h. flat_map h (cuts ts)) (fun_ext each)
    where
      each : (c : Cut Thread) → at (cut_map (λ t. (t, f t)) c) ≡ map (put (around c)) (f (chosen c) n)
      each (cut l t r) =
          is _ ∙ ap₂ (λ a b. map (put (λ x. a ++ x ++ b)) (f t n)) (threads_paired f l) (threads_paired f r)

  -- They list derivations that are a split and a derivation D of the thread there, if f does for each thread.
  pub among_listed : (D : ℕ → Thread → Y → Type 0) (ts : List Thread)
      → ((c : Cut Thread) → SplitAt ts c → (m : ℕ) → Lists (Derived (D m (chosen c))) (f (chosen c) m))
      → Lists (λ P. Derived (SplitAt ts) (λ c. Derived (D n (chosen c)) (λ y. P (put (around c) y)))) (among ts)
  unfolding among
  among_listed D ts listed = chained (cuts_listed ts) (λ c s. mapped (put (around c)) (listed c s n))
