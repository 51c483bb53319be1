-- Messages are equal by the equations exactly when their normal forms are the same, and the test decides it ("Messages").
-- `normal` contracts each node over the normal forms of its parts.
pub mod Same
pub mod Contraction
pub mod Renaming
use mathlib.Core.Path.{◌≡◌, refl, sym, ◌∙◌, ap, ap₂}
use mathlib.Core.Logic.{∥∥₁_elim}
use lib.Dec.{T_prop}
use Rattle.meaning.specs.Messages.Term.{fst, snd, Message, leaf, proj, binary}
use Rattle.meaning.specs.Messages.Equation.{projected, undone, Normal}
use Rattle.meaning.specs.Messages.Equation.{◌≈◌, equation, reflexive, symmetric, transitive, under_proj, under_binary}
use Rattle.meaning.specs.Messages.Normal.{project, build, normal, equal}
use Rattle.meaning.specs.Theorems.{EqualByNormalForms, NormalForms, EqualityDecided}
use Rattle.meaning.proofs.Messages.Same.{same_sound, same_refl}
use Rattle.meaning.proofs.Messages.Contraction.{contract_equal, stuck, normal_parts, contract_normal, contract_undone}

pub normal_forms : NormalForms
unfolding normal
normal_forms (leaf a) = (contract_normal (leaf a) tt, reflexive (leaf a))
normal_forms (proj s m) = (
  contract_normal (proj s (normal m)) (normal_forms m).0,
  transitive (contract_equal (proj s (normal m))) (under_proj s (normal_forms m).1),
)
normal_forms (binary b m n) = (
  contract_normal (binary b (normal m) (normal n)) ((normal_forms m).0, (normal_forms n).0),
  transitive (contract_equal (binary b (normal m) (normal n))) (under_binary b (normal_forms m).1 (normal_forms n).1),
)

pub normal_of_normal : (m : Message) → Normal m → normal m ≡ m
unfolding normal
normal_of_normal (leaf a) h = refl
normal_of_normal (proj s m) h = rw (normal_of_normal m h.1) ((stuck (proj s m)).0 h.0)
normal_of_normal (binary b m n) h =
    rw (normal_of_normal m h.1, normal_of_normal n h.2) ((stuck (binary b m n)).0 h.0)

equal_normal : {m n : Message} → m ≈ n → normal m ≡ normal n
unfolding project build normal
equal_normal (equation (projected fst m n)) = refl
equal_normal (equation (projected snd m n)) = refl
equal_normal (equation (undone d m k)) =
    contract_undone d (normal m) (normal k) ((normal_parts (normal m)).0 (normal_forms m).0).0
equal_normal (reflexive m) = refl
equal_normal (symmetric e) = sym (equal_normal e)
equal_normal (transitive e f) = equal_normal e ∙ equal_normal f
equal_normal (under_proj s e) = ap (project s) (equal_normal e)
equal_normal (under_binary b e f) = ap₂ (build b) (equal_normal e) (equal_normal f)

pub equal_by_normal_forms : EqualByNormalForms
equal_by_normal_forms m n =
    (equal_normal, λ p. transitive (symmetric (rw p at (normal_forms m).1)) (normal_forms n).1)

pub equality_decided : EqualityDecided
unfolding equal
equality_decided m n = (
  λ t. ∥∥₁_elim t (T_prop (equal m n)) λ e. rw (equal_normal e) (same_refl (normal n)),
  λ h. ∣ (equal_by_normal_forms m n).1 (same_sound (normal m) (normal n) h) ∣₁,
)
