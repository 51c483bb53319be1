-- One-to-one correspondences as equations between types, and what it is that a list has each derivation once and nothing else
-- ("Steps").
use mathlib.Core.Path.{◌≡◌, refl, sym, ◌∙◌, ap, ap₂}
use mathlib.Core.Logic.{◌⊎◌, inl, inr, ◌↔◌}
use mathlib.Core.Bool.{Bool, true, false}
use mathlib.Core.List.{List, [], ◌∷◌, ◌++◌, map, flat_map}
use mathlib.Core.Equiv.{iso_to_equiv, path_to_iso}
use lib.Dec.{T}
use Rattle.meaning.specs.Messages.Term.{Message}
use Rattle.meaning.specs.Messages.Equation.{Equal}
use Rattle.meaning.specs.Messages.Normal.{equal}
use Rattle.meaning.specs.Places.{Some, here, there, OneToOne}
use Rattle.meaning.proofs.Messages.{equality_decided}

-- An equation between types is a one-to-one correspondence.
pub correspondence : {A B : Type 0} → A ≡ B → OneToOne A B
correspondence p =
    let e = path_to_iso p in record { to = e.fun; from = e.inv; to_from = e.rinv; from_to = e.linv }

-- And back, by univalence: `view` finds for each value something that it is made from, `once` that there is no other.
bijection : {A B : Type 0} (make : B → A) (view : (a : A) → (b : B) × (make b ≡ a)) → ((b : B) → (view (make b)).0 ≡ b) → A ≡ B
bijection {A} {B} make view once = λ i.
    V i A B (iso_to_equiv (record { fun = λ a. (view a).0; inv = make; rinv = once; linv = λ a. (view a).1 }))

empty : {A : Type 0} → (A → ⊥) → A ≡ ⊥
empty none = bijection (λ e. absurd e) (λ a. absurd (none a)) (λ e. absurd e)

sum_empty : {A : Type 0} → (⊥ ⊎ A) ≡ A
sum_empty {A} = bijection {A = ⊥ ⊎ A} inr (elim [ inl e ↦ absurd e | inr a ↦ (a, refl) ]) (λ a. refl)

sum_assoc : {A B C : Type 0} → ((A ⊎ B) ⊎ C) ≡ (A ⊎ (B ⊎ C))
sum_assoc {A} {B} {C} =
    bijection {A = (A ⊎ B) ⊎ C} {B = A ⊎ (B ⊎ C)} (elim [ inl a ↦ inl (inl a) | inr (inl b) ↦ inl (inr b) | inr (inr c) ↦ inr c ])
    (elim [ inl (inl a) ↦ (inl a, refl) | inl (inr b) ↦ (inr (inl b), refl) | inr c ↦ (inr (inr c), refl) ])
    (elim [ inl a ↦ refl | inr (inl b) ↦ refl | inr (inr c) ↦ refl ])

-- Some, by recursion on the list.
abbrev pub Any : {A : Type 0} → (A → Type 0) → List A → Type 0
Any P [] = ⊥
Any P (x ∷ xs) = P x ⊎ Any P xs

pub some-any : {A : Type 0} (P : A → Type 0) (xs : List A) → Some P xs ≡ Any P xs
some-any P [] = empty (elim [ ])
some-any P (x ∷ xs) =
    bijection {B = P x ⊎ Some P xs} (elim [ inl p ↦ here p | inr s ↦ there s ])
    (elim [ here p ↦ (inl p, refl) | there s ↦ (inr s, refl) ]) (elim [ inl p ↦ refl | inr s ↦ refl ])
    ∙ ap (λ X. P x ⊎ X) (some-any P xs)

any_append : {A : Type 0} (P : A → Type 0) (xs ys : List A) → (Any P xs ⊎ Any P ys) ≡ Any P (xs ++ ys)
any_append P [] ys = sum_empty
any_append P (x ∷ xs) ys = sum_assoc ∙ ap (λ X. P x ⊎ X) (any_append P xs ys)

any_map : {A B : Type 0} (P : B → Type 0) (f : A → B) (xs : List A) → Any (λ x. P (f x)) xs ≡ Any P (map f xs)
any_map P f [] = refl
any_map P f (x ∷ xs) = ap (λ X. P (f x) ⊎ X) (any_map P f xs)

any_flat_map : {A B : Type 0} (P : B → Type 0) (f : A → List B) (xs : List A) → Any (λ x. Any P (f x)) xs ≡ Any P (flat_map f xs)
unfolding flat_map
any_flat_map P f [] = refl
any_flat_map P f (x ∷ xs) = ap (λ X. Any P (f x) ⊎ X) (any_flat_map P f xs) ∙ any_append P (f x) (flat_map f xs)

-- The derivations that lead to an x with P.
pub data Derived {A : Type 0} (D P : A → Type 0) : Type 0 where
  by : (x : A) → D x → P x → Derived D P

pub derived : {A : Type 0} {D P : A → Type 0} → ((x : A) × D x × P x) ≡ Derived D P
derived = bijection (elim [ by x d p ↦ (x, d, p) ]) (λ t. (by t.0 t.1 t.2, refl)) (elim [ by x d p ↦ refl ])

-- Whatever P is asked for, F P corresponds to the places of the list with P.
pub record Lists {A : Type 0} (F : (A → Type 0) → Type 0) (xs : List A) : Type 1 where
  pub places : (P : A → Type 0) → F P ≡ Any P xs

-- The laws of Lists: no element, one, two lists joined, a function on each element, a list for each element.
pub nothing : {A : Type 0} {F : (A → Type 0) → Type 0} → ((P : A → Type 0) → F P → ⊥) → Lists F []
nothing none = record { places = λ P. empty (none P) }

pub single : {A : Type 0} (x : A) → Lists (λ P. P x) (x ∷ [])
single x = record {
  places = λ P. sym (bijection {A = P x ⊎ ⊥} inl (elim [ inl p ↦ (p, refl) | inr e ↦ absurd e ]) (λ p. refl));
}

module _ {A : Type 0} {F G : (A → Type 0) → Type 0} {xs : List A} where
  pub either : {ys : List A} → Lists F xs → Lists G ys → Lists (λ P. F P ⊎ G P) (xs ++ ys)
  either {ys} l m = record { places = λ P. ap₂ (λ X Y. X ⊎ Y) (l.places P) (m.places P) ∙ any_append P xs ys }

  -- Derivations are listed as what they are made from is.
  pub inverted : Lists F xs → (make : (P : A → Type 0) → F P → G P)
      (view : (P : A → Type 0) (d : G P) → (e : F P) × (make P e ≡ d)) → ((P : A → Type 0) (e : F P) → (view P (make P e)).0 ≡ e)
      → Lists G xs
  inverted l make view once = record { places = λ P. bijection (make P) (view P) (once P) ∙ l.places P }

module _ {A B : Type 0} {xs : List A} where
  pub mapped : {F : (A → Type 0) → Type 0} (f : A → B) → Lists F xs → Lists (λ P. F (λ x. P (f x))) (map f xs)
  mapped f l = record { places = λ P. l.places (λ x. P (f x)) ∙ any_map P f xs }

  pub chained : {D : A → Type 0} {G : A → (B → Type 0) → Type 0} {f : A → List B}
      → Lists (Derived D) xs → ((x : A) → D x → Lists (G x) (f x)) → Lists (λ P. Derived D (λ x. G x P)) (flat_map f xs)
  chained {D} {f = f} l m = record {
    places = λ P.
        sym derived ∙ (λ i. (x : A) × (d : D x) × (m x d).places P i) ∙ derived
        ∙ l.places (λ x. Any P (f x)) ∙ any_flat_map P f xs;
  }

-- One element where two messages are equal, by the test of it.
pub if-equal : {A : Type 0} (m n : Message) (x : A)
    → Lists (λ P. Equal m n × P x) (elim (equal m n) [ true ↦ x ∷ [] | false ↦ [] ])
if-equal m n x = tested (equal m n) (equality_decided m n)
  where
    tested : (b : Bool) → Equal m n ↔ T b → Lists (λ P. Equal m n × P x) (elim b [ true ↦ x ∷ [] | false ↦ [] ])
    tested false h = nothing (λ P d. h.0 d.0)
    tested true h =
        let e = h.1 tt in
        inverted (single x) (λ P p. (e, p)) (λ P d. (d.1, λ i. (squash₁ e d.0 i, d.1))) (λ P p. refl)
