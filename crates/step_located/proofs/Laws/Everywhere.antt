-- More laws of a property that holds at every place of a list.
use mathlib.Core.List.{List, [], ◌∷◌, map, flat_map}
use mathlib.Core.Bool.{true, false}
use Rattle.meaning.specs.Messages.Term.{Term}
use Rattle.meaning.specs.Messages.Normal.{equal}
use Rattle.meaning.specs.Bytes.Process.{Prefix, output, input}
use Rattle.meaning.specs.Places.{Every, none, ◌also◌}
use Rattle.meaning.specs.Steps.State.{written}
use Rattle.meaning.proofs.Every.{every_joined}
use Rattle.step_located.specs.Located.{LocatedOffer, prefixed}
use Rattle.step_located.specs.CopyStep.{Pair, matching, pair_of}

-- What holds of all; two properties; one that a premise implies; the elements of a map, and of lists that are joined.
module _ {A : Type 0} where
  pub everywhere : {P : A → Type 0} → ((x : A) → P x) → (xs : List A) → Every P xs
  everywhere h [] = none
  everywhere h (x ∷ xs) = h x also everywhere h xs

  pub every_and : {P Q : A → Type 0} {xs : List A} → Every P xs → Every Q xs → Every (λ x. P x × Q x) xs
  every_and none none = none
  every_and (p also ps) (q also qs) = (p, q) also every_and ps qs

  pub every_first : {P : A → Type 0} {x : A} {xs : List A} → Every P (x ∷ xs) → P x
  every_first (p also ps) = p

  pub every_rest : {P : A → Type 0} {x : A} {xs : List A} → Every P (x ∷ xs) → Every P xs
  every_rest (p also ps) = ps

  pub every_under : {F : Type 0} {P : A → Type 0} (xs : List A) → (F → Every P xs) → Every (λ x. F → P x) xs
  every_under [] h = none
  every_under (x ∷ xs) h = (λ f. every_first (h f)) also every_under xs (λ f. every_rest (h f))

  pub every_mapped : {B : Type 0} {P : B → Type 0} (f : A → B) {xs : List A} → Every (λ x. P (f x)) xs → Every P (map f xs)
  every_mapped f none = none
  every_mapped f (p also ps) = p also every_mapped f ps

  pub every_flat_map : {B : Type 0} {P : B → Type 0} (f : A → List B) {xs : List A} → Every (λ x. Every P (f x)) xs → Every P (flat_map f xs)
  unfolding flat_map
  every_flat_map f none = none
  every_flat_map f (p also ps) = every_joined p (every_flat_map f ps)

-- Two offers make at most one pair, of an output and an input.
pub matching_every : {P : Pair → Type 0} (R : LocatedOffer → LocatedOffer → Type 0) (a c : LocatedOffer)
    → ((C M D : Term) → R (prefixed a (output C M)) (prefixed c (input D)) → P (pair_of (prefixed a (output C M)) (prefixed c (input D))))
    → R a c → Every P (matching a c)
unfolding matching
matching_every {P} R a c h = each a.prefix c.prefix
  where
    each : (p q : Prefix) → R (prefixed a p) (prefixed c q) → Every P (matching (prefixed a p) (prefixed c q))
    each (output C M) (output D N) r = none
    each (output C M) (input D) r =
        elim (equal (written a.bound C) (written c.bound D)) as (λ b.
        Every P (elim b [ true ↦ pair_of (prefixed a (output C M)) (prefixed c (input D)) ∷ [] | false ↦ [] ]))
        [ true ↦ h C M D r also none | false ↦ none ]
    each (input C) (output D N) r = none
    each (input C) (input D) r = none

pub every_matching : {P : Pair → Type 0} (a c : LocatedOffer) → P (pair_of a c) → Every P (matching a c)
every_matching {P} a c = matching_every (λ a c. P (pair_of a c)) a c (λ C M D h. h)
