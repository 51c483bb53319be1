-- The laws of a property that holds at every place of a list.
use Prim.Native.Nat.{ℕ, zero, suc}
use mathlib.Core.List.{List, [], ◌∷◌, ◌++◌}
use lib.ListN.{get_or}
use Rattle.meaning.specs.Places.{Every, none, ◌also◌}
use Rattle.meaning.specs.Steps.Offer.{Split, here, there}

module _ {ℓ} {A : Type 0} {P : A → Type ℓ} where
  pub every_map : {Q : A → Type ℓ} → ((x : A) → P x → Q x) → {xs : List A} → Every P xs → Every Q xs
  every_map f none = none
  every_map f (p also ps) = f _ p also every_map f ps

  pub every_joined : {xs ys : List A} → Every P xs → Every P ys → Every P (xs ++ ys)
  every_joined none qs = qs
  every_joined (p also ps) qs = p also every_joined ps qs

  pub every_parts : (xs : List A) {ys : List A} → Every P (xs ++ ys) → Every P xs × Every P ys
  every_parts [] e = (none, e)
  every_parts (x ∷ xs) (p also e) = let r = every_parts xs e in (p also r.0, r.1)

  pub every_split : {ts l r : List A} {t : A} → Split ts l t r → Every P ts → Every P l × P t × Every P r
  every_split here (p also ps) = (none, p, ps)
  every_split (there s) (p also ps) = let e = every_split s ps in (p also e.0, e.1, e.2)

  pub every_get_d : {xs : List A} {d : A} → Every P xs → P d → (k : ℕ) → P (get_or xs k d)
  every_get_d none q k = q
  every_get_d (p also ps) q zero = p
  every_get_d (p also ps) q (suc k) = every_get_d ps q k
