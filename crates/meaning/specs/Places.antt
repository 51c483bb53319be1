-- Places in a list and one-to-one correspondences, in which the theorem on the enumeration is stated.
use Rattle.std.specs.Prelude.{◌≡◌, List, [], ◌∷◌}

-- A place of the list at which P holds.
pub data Some {A : Type 0} (P : A → Type 0) : List A → Type 0 where
  here : {x : A} {xs : List A} → P x → Some P (x ∷ xs)
  there : {x : A} {xs : List A} → Some P xs → Some P (x ∷ xs)

-- P holds at every place of the list.
infixr 5 ◌also◌
pub data Every {ℓ} {A : Type 0} (P : A → Type ℓ) : List A → Type ℓ where
  none : Every P []
  ◌also◌ : {x : A} {xs : List A} → P x → Every P xs → Every P (x ∷ xs)

-- A one-to-one correspondence of two types.
pub record OneToOne (A B : Type 0) : Type 0 where
  pub to : A → B
  pub from : B → A
  pub to_from : (b : B) → to (from b) ≡ b
  pub from_to : (a : A) → from (to a) ≡ a
