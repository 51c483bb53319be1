-- Blocks: lists of threads with the positions of their processes, one beside the other, and what a list gives cut by cut inside a
-- longer one ("Steps").
use Prim.Native.Nat.{ℕ}
use mathlib.Core.Path.{◌≡◌, refl, sym, ◌∙◌, ap, ap₂, fun_ext}
use mathlib.Core.Logic.{◌⊎◌, inl, inr}
use mathlib.Core.Bool.{true, false}
use mathlib.Core.List.{List, [], ◌∷◌, ◌++◌, map, map-append, map-map, append-nil, append_assoc, flat_map}
use Rattle.meaning.specs.Messages.Normal.{equal}
use Rattle.meaning.specs.Bytes.Process.{Process}
use Rattle.meaning.specs.Places.{Every, none, ◌also◌}
use Rattle.meaning.specs.Steps.State.{Bound, written, Thread, settle}
use Rattle.meaning.specs.Steps.Offer.{offer, placed}
use Rattle.meaning.specs.Steps.Enumeration.{Cut, cut, shift, cuts, offers}
use Rattle.meaning.proofs.Test.{chosen as tested}
use Rattle.meaning.proofs.Every.{every_map, every_joined}
use Rattle.step_located.specs.Located.{LocatedOffer, located_offers, inside, replaced, replaced_as, without_place}
use Rattle.step_located.specs.CopyStep.{located_offers_except, both_replaced, both_replaced_as}
use Rattle.step_located.proofs.Laws.Located.{bounds_inside, outside, part_outside, outside_first, acting_inside, replaced_outside}
use Rattle.step_located.proofs.Laws.Located.{new_part, then_part, else_part, let_part, left_part, right_part, repl_part}
use Rattle.step_located.proofs.Laws.Located.{offers_append, located, map_every, offers_located}

-- Lists made from lists: of two lists, of a map, under a map, and by two functions that agree on every element.
module _ {A B : Type 0} where
  pub flat_map_append : (f : A → List B) (xs ys : List A) → flat_map f (xs ++ ys) ≡ flat_map f xs ++ flat_map f ys
  unfolding flat_map
  flat_map_append f [] ys = refl
  flat_map_append f (x ∷ xs) ys = ap (λ r. f x ++ r) (flat_map_append f xs ys) ∙ sym (append_assoc (f x) _ _)

  pub flat_map_map : {C : Type 0} (f : B → List C) (g : A → B) (xs : List A) → flat_map f (map g xs) ≡ flat_map (λ x. f (g x)) xs
  unfolding flat_map
  flat_map_map f g [] = refl
  flat_map_map f g (x ∷ xs) = ap (λ r. f (g x) ++ r) (flat_map_map f g xs)

  pub map_flat_map : {C : Type 0} (f : B → C) (g : A → List B) (xs : List A) → map f (flat_map g xs) ≡ flat_map (λ x. map f (g x)) xs
  unfolding flat_map
  map_flat_map f g [] = refl
  map_flat_map f g (x ∷ xs) = map-append f (g x) (flat_map g xs) ∙ ap (λ r. map f (g x) ++ r) (map_flat_map f g xs)

  pub flat_map_every : {f g : A → List B} {xs : List A} → Every (λ x. f x ≡ g x) xs → flat_map f xs ≡ flat_map g xs
  unfolding flat_map
  flat_map_every none = refl
  flat_map_every (e also es) = ap₂ ◌++◌ e (flat_map_every es)

module _ {A B : Type 0} (f : Cut A → List B) where
  -- What f gives at the cuts of ts, which stands between l and r.
  unfoldable pub over_cuts : (l ts r : List A) → List B
  over_cuts l [] r = []
  over_cuts l (t ∷ ts) r = f (cut l t (ts ++ r)) ++ over_cuts (l ++ (t ∷ [])) ts r

  pub over_cuts_append : (l xs ys r : List A) → over_cuts l (xs ++ ys) r ≡ over_cuts l xs (ys ++ r) ++ over_cuts (l ++ xs) ys r
  unfolding over_cuts
  over_cuts_append l [] ys r = simp append-nil
  over_cuts_append l (x ∷ xs) ys r =
      let l' = l ++ (x ∷ []) in
      ap₂ (λ s u. f (cut l x s) ++ u) (append_assoc xs ys r)
      (over_cuts_append l' xs ys r ∙ ap (λ m. over_cuts l' xs (ys ++ r) ++ over_cuts m ys r) (append_assoc l (x ∷ []) xs))
      ∙ sym (append_assoc (f _) _ _)

  -- So the cuts of a list are those of a list between none.
  abbrev stood : (l r : List A) → Cut A → Cut A
  stood l r (cut a t b) = cut (l ++ a) t (b ++ r)

  over_cuts_cuts : (l ts r : List A) → over_cuts l ts r ≡ flat_map (λ c. f (stood l r c)) (cuts ts)
  unfolding over_cuts cuts flat_map
  over_cuts_cuts l [] r = refl
  over_cuts_cuts l (t ∷ ts) r =
      ap₂ (λ m u. f (cut m t (ts ++ r)) ++ u) (sym (append-nil l))
      (over_cuts_cuts (l ++ (t ∷ [])) ts r ∙ ap (λ g. flat_map g (cuts ts)) (fun_ext each) ∙ sym (flat_map_map _ (shift t) (cuts ts)))
    where
      each : (c : Cut A) → f (stood (l ++ (t ∷ [])) r c) ≡ f (stood l r (shift t c))
      each (cut a u b) = ap (λ m. f (cut m u (b ++ r))) (append_assoc l (t ∷ []) a)

  pub cuts_over : (ts : List A) → flat_map f (cuts ts) ≡ over_cuts [] ts []
  cuts_over ts = sym (over_cuts_cuts [] ts [] ∙ ap (λ g. flat_map g (cuts ts)) (fun_ext each))
    where
      each : (c : Cut A) → f (stood [] [] c) ≡ f c
      each (cut l t r) = ap (λ s. f (cut l t s)) (append-nil r)

-- Threads with positions: which positions are theirs; their offers, copies being opened at k; the offers of the threads that do not
-- have x in them; the list with one thread replaced, and with two.
pub record Block : Type 1 where
  pub covers : ℕ → Type 0
  pub threads : List Thread
  pub offering : (k : ℕ) → List LocatedOffer
  pub besides : (x k : ℕ) → List LocatedOffer
  pub put : (x : ℕ) (z : List Thread) (k : ℕ) → List Thread
  pub put_both : (x : ℕ) (zx : List Thread) (y : ℕ) (zy : List Thread) (k j : ℕ) → List Thread

-- Those of a process that stands at a position and is settled at n.
abbrev pub Within : (at : ℕ) → Process → ℕ → Type 0
Within at P x = inside x at P ≡ true

abbrev pub block : Process → (at : ℕ) → Bound → (n : ℕ) → Block
block P at ρ n = record {
  covers = Within at P;
  threads = settle P ρ n;
  offering = λ k. located_offers P at ρ n k;
  besides = λ x k. located_offers_except x P at ρ n k;
  put = λ x z k. replaced x z P at ρ n k;
  put_both = λ x zx y zy k j. both_replaced x zx y zy P at ρ n k j;
}

-- Two blocks side by side.
infixl 65 ◌beside◌
abbrev pub ◌beside◌ : Block → Block → Block
B beside C = record {
  covers = λ x. B.covers x ⊎ C.covers x;
  threads = B.threads ++ C.threads;
  offering = λ k. B.offering k ++ C.offering k;
  besides = λ x k. B.besides x k ++ C.besides x k;
  put = λ x z k. B.put x z k ++ C.put x z k;
  put_both = λ x zx y zy k j. B.put_both x zx y zy k j ++ C.put_both x zx y zy k j;
}

-- The offers of a block are those of its threads and at its positions; a position that it does not cover changes nothing.
pub record Laws (B : Block) : Type 0 where
  pub within : (k : ℕ) → Every (λ a. B.covers a.place) (B.offering k)
  pub offered : (k : ℕ) → offers k B.threads ≡ map (located (λ x z. B.put x z k)) (B.offering k)
  pub still : (x : ℕ) (z : List Thread) (k : ℕ) → ¬ (B.covers x) → B.put x z k ≡ B.threads
  pub everyone : (x k : ℕ) → ¬ (B.covers x) → B.besides x k ≡ B.offering k
  pub second : (x : ℕ) (zx : List Thread) (y : ℕ) (zy : List Thread) (k j : ℕ) → ¬ (B.covers x)
      → B.put_both x zx y zy k j ≡ B.put y zy j

-- No position is one of both.
abbrev pub Apart : (I J : ℕ → Type 0) → Type 0
Apart I J = (x : ℕ) → I x → J x → ⊥

-- Offers put into a larger list: that list is to be known for each of their positions.
placed_located : {I : ℕ → Type 0} (g : List Thread → List Thread) (f h : ℕ → List Thread → List Thread) {os : List LocatedOffer}
    → Every (λ a. I a.place) os → ((x : ℕ) → I x → (z : List Thread) → h x z ≡ g (f x z))
    → map (placed g) (map (located f) os) ≡ map (located h) os
placed_located g f h {os} every same =
    map-map (placed g) (located f) os
    ∙ map_every (every_map (λ a i j. offer a.bound a.prefix a.rest (λ z. sym (same a.place i z) j) a.next) every)

pub beside_laws : {B C : Block} → Apart B.covers C.covers → Laws B → Laws C → Laws (B beside C)
beside_laws {B} {C} apart b c = record {
  within = λ k. every_joined (every_map (λ a. inl) (b.within k)) (every_map (λ a. inr) (c.within k));
  offered = λ k.
      offers_append k B.threads C.threads
      ∙ ap₂ (λ u v. map (placed (λ z. z ++ C.threads)) u ++ map (placed (λ z. B.threads ++ z)) v) (b.offered k) (c.offered k)
      ∙ ap₂ ◌++◌ (placed_located (λ z. z ++ C.threads) _ _ (b.within k) (λ x i z. ap (λ r. B.put x z k ++ r) (c.still x z k (apart x i))))
      (placed_located (λ z. B.threads ++ z) (λ x z. C.put x z k) _ (c.within k) (λ x i z. ap (λ r. r ++ C.put x z k) (b.still x z k (λ o. apart x o i))))
      ∙ sym (map-append _ (B.offering k) (C.offering k));
  still = λ x z k out. ap₂ ◌++◌ (b.still x z k (λ i. out (inl i))) (c.still x z k (λ i. out (inr i)));
  everyone = λ x k out. ap₂ ◌++◌ (b.everyone x k (λ i. out (inl i))) (c.everyone x k (λ i. out (inr i)));
  second = λ x zx y zy k j out.
      ap₂ ◌++◌ (b.second x zx y zy k j (λ i. out (inl i))) (c.second x zx y zy k j (λ i. out (inr i)));
}

-- At a position outside a process none of its offers is left out, and with two positions only the other one matters.
pub others_outside : (x : ℕ) (P : Process) (at : ℕ) (ρ : Bound) (n k : ℕ) → inside x at P ≡ false
    → located_offers_except x P at ρ n k ≡ located_offers P at ρ n k
unfolding located_offers_except located_offers
others_outside x Process.nil at ρ n k out = refl
others_outside x (Process.new P) at ρ n k out = others_outside x P _ _ _ k (part_outside x (new_part at P) out)
others_outside x (Process.act p P) at ρ n k out = rw (outside_first x at (Process.act p P) out, located_offers_except)
others_outside x (Process.if M N P Q) at ρ n k out =
    tested ◌≡◌ (equal (written ρ M) (written ρ N)) (others_outside x P _ ρ n k (part_outside x (then_part at M N P Q) out))
    (others_outside x Q _ ρ n k (part_outside x (else_part at M N P Q) out))
others_outside x (Process.let_in M P) at ρ n k out = others_outside x P _ _ n k (part_outside x (let_part at M P) out)
others_outside x (Process.par P Q) at ρ n k out =
    ap₂ ◌++◌ (others_outside x P _ ρ n k (part_outside x (left_part at P Q) out))
    (others_outside x Q _ ρ _ k (part_outside x (right_part at P Q) out))
others_outside x (Process.repl P) at ρ n k out = rw (part_outside x (repl_part at P) out, located_offers_except)

module _ {A : Type 0} (note : ℕ → Thread → A) (x : ℕ) (zx : List A) (y : ℕ) (zy : List A) where
  pub both_outside : (P : Process) (at : ℕ) (ρ : Bound) (n k j : ℕ) → inside x at P ≡ false
      → both_replaced_as note x zx y zy P at ρ n k j ≡ replaced_as note y zy P at ρ n j
  unfolding both_replaced_as replaced_as
  both_outside Process.nil at ρ n k j out = refl
  both_outside (Process.new P) at ρ n k j out = both_outside P _ _ _ k j (part_outside x (new_part at P) out)
  both_outside (Process.act p P) at ρ n k j out = rw (outside_first x at (Process.act p P) out, both_replaced_as)
  both_outside (Process.if M N P Q) at ρ n k j out =
      tested ◌≡◌ (equal (written ρ M) (written ρ N)) (both_outside P _ ρ n k j (part_outside x (then_part at M N P Q) out))
      (both_outside Q _ ρ n k j (part_outside x (else_part at M N P Q) out))
  both_outside (Process.let_in M P) at ρ n k j out = both_outside P _ _ n k j (part_outside x (let_part at M P) out)
  both_outside (Process.par P Q) at ρ n k j out =
      ap₂ ◌++◌ (both_outside P _ ρ n k j (part_outside x (left_part at P Q) out))
      (both_outside Q _ ρ _ k j (part_outside x (right_part at P Q) out))
  both_outside (Process.repl P) at ρ n k j out = rw (part_outside x (repl_part at P) out, both_replaced_as)

pub block_laws : (P : Process) (at : ℕ) (ρ : Bound) (n : ℕ) → Laws (block P at ρ n)
block_laws P at ρ n = record {
  within = acting_inside P at ρ n;
  offered = offers_located P at ρ n;
  still = λ x z k out. replaced_outside x z P at ρ n k (not_within x out);
  everyone = λ x k out. others_outside x P at ρ n k (not_within x out);
  second = λ x zx y zy k j out. both_outside without_place x zx y zy P at ρ n k j (not_within x out);
}
  where
    not_within : (x : ℕ) → ¬ (Within at P x) → inside x at P ≡ false
    not_within x out = outside x at P (λ low high. out (bounds_inside x at P low high))
