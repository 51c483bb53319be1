-- Boolean tests as types, and a test that some element of a list passes.
use mathlib.Core.Path.{◌≡◌, refl, sym, ap, ◌∙◌}
use mathlib.Core.Bool.{Bool, true, false, ◌||◌, true≢false}
use mathlib.Core.List.{List, [], ◌∷◌, ◌++◌}
use mathlib.Core.Logic.{⊎_elim}
use lib.Dec.{T}
use lib.Ieee.Bits.{is_true}
use mir.Facts.{or_yes}
use Rattle.meaning.specs.Places.{Some, here, there, Every, none, ◌also◌}
use Rattle.meaning.specs.Logic.Truth.{any_of}

pub is_false : (b : Bool) → ¬ (T b) → b ≡ false
is_false true h = absurd (h tt)
is_false false h = refl

pub T-alike : (a b : Bool) → (T a → T b) → (T b → T a) → a ≡ b
T-alike true b f g = sym (is_true b (f tt))
T-alike false b f g = sym (is_false b g)

-- Two things that one test chooses.
pub chosen : {A B : Type 0} (R : A → B → Type 0) (c : Bool) {v x : A} {w y : B} → R v w → R x y
    → R (elim c [ true ↦ v | false ↦ x ]) (elim c [ true ↦ w | false ↦ y ])
chosen R true r s = r
chosen R false r s = s

or_left : (a b : Bool) → T a → T (a || b)
or_left true b t = tt
or_left false b t = elim t [ ]

or_right : (a b : Bool) → T b → T (a || b)
or_right true b t = tt
or_right false b t = t

or_assoc : (a b c : Bool) → (a || (b || c)) ≡ ((a || b) || c)
or_assoc true b c = refl
or_assoc false b c = refl

pub neither : (a b : Bool) → (a || b) ≡ false → (a ≡ false) × (b ≡ false)
neither true b h = absurd (true≢false h)
neither false b h = (refl, h)

-- Some element passes.
pub some_passes : {A : Type 0} (p : A → Bool) {xs : List A} → Some (λ x. T (p x)) xs → T (any_of p xs)
unfolding any_of
some_passes p (here {x = x} {xs = xs} t) = or_left (p x) (any_of p xs) t
some_passes p (there {x = x} {xs = xs} s) = or_right (p x) (any_of p xs) (some_passes p s)

pub passes_some : {A : Type 0} (p : A → Bool) (xs : List A) → T (any_of p xs) → Some (λ x. T (p x)) xs
unfolding any_of
passes_some p [] t = absurd t
passes_some p (x ∷ xs) t = ⊎_elim here (λ s. there (passes_some p xs s)) (or_yes (p x) (any_of p xs) t)

-- No element passes.
pub none_passes : {A : Type 0} (p : A → Bool) {xs : List A} → Every (λ x. p x ≡ false) xs → any_of p xs ≡ false
unfolding any_of
none_passes p none = refl
none_passes p (e also es) = rw (e, none_passes p es)

pub passes_none : {A : Type 0} (p : A → Bool) (xs : List A) → any_of p xs ≡ false → Every (λ x. p x ≡ false) xs
unfolding any_of
passes_none p [] h = none
passes_none p (x ∷ xs) h = let n = neither (p x) (any_of p xs) h in n.0 also passes_none p xs n.1

-- Two lists joined; one property for another.
pub any_append : {A : Type 0} (p : A → Bool) (xs ys : List A) → any_of p (xs ++ ys) ≡ (any_of p xs || any_of p ys)
unfolding any_of
any_append p [] ys = refl
any_append p (x ∷ xs) ys = ap (λ b. p x || b) (any_append p xs ys) ∙ or_assoc (p x) (any_of p xs) (any_of p ys)

pub some_map : {A : Type 0} {P Q : A → Type 0} → ((x : A) → P x → Q x) → {xs : List A} → Some P xs → Some Q xs
some_map f (here p) = here (f _ p)
some_map f (there s) = there (some_map f s)
