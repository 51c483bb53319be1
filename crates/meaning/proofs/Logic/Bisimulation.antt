-- Related states make the same formulas true, so a formula that tells two states apart excludes every strong early
-- bisimulation that relates them ("Steps", last paragraph).
use mathlib.Core.Path.{◌≡◌, refl, ap}
use mathlib.Core.Logic.Iff
use mathlib.Core.Logic.{∥∥₁_elim}
use Prim.Native.Nat.{◌+◌}
use native.Mathlib.Omega.{arith}
use lib.Dec.{T_prop}
use lib.ListN.{length-append}
use Rattle.meaning.specs.Bytes.Formula.{Label, Formula, equal, not, and, step}
use Rattle.meaning.specs.Bytes.Scope.{binds_label, LabelScoped, FormulaScoped}
use Rattle.meaning.specs.Steps.State.{State}
use Rattle.meaning.specs.Steps.Silent.{meeting}
use Rattle.meaning.specs.Steps.Step.{Step, output, input, silent}
use Rattle.meaning.specs.Logic.Truth.{True, holds}
use Rattle.meaning.specs.Logic.Bisimulation.{outputs, Matched, Bisimulation}
use Rattle.meaning.specs.Theorems.{RelatedAgree, EqualityBisimulates}
use Rattle.meaning.proofs.Logic.Truth.{truth_evaluated}

-- A step adds the aliases that its label binds.
step_outputs : {S U : State} {a : Label} → Step S a U → outputs U ≡ binds_label a + outputs S
step_outputs (output d e) = simp length-append (omega arith)
step_outputs (input d e) = omega arith
step_outputs (silent {w = meeting ρ M P σ Q f k} d) = omega arith

-- A step formula is carried along, either way, where steps are matched and its body is carried along.
carried {ℓ} : (R : State → State → Type ℓ) (F : Formula) {S U : State} (a : Label)
    → Matched R S U → LabelScoped (outputs S) a
    → ((S' U' : State) → R S' U' → Step S a S' → True F S' → True F U')
    → True (step a F) S → True (step a F) U
carried R F {S} {U} a match scoped body (S', d, h) =
    (truth_evaluated (step a F) U).1
    (∥∥₁_elim (match a scoped S' d) (T_prop (holds (step a F) U))
    (λ m. (truth_evaluated (step a F) U).0 (m.0, m.1, body S' m.0 m.2 d h)))

pub related_agree {ℓ} : RelatedAgree {ℓ}
related_agree R B (equal M N) S U r scoped = B.static S U r M N scoped.0 scoped.1
related_agree R B (not F) S U r scoped =
    let f = related_agree R B F S U r scoped in
    (λ h t. h (f.1 t), λ h t. h (f.0 t))
related_agree R B (and F G) S U r scoped =
    let f = related_agree R B F S U r scoped.0 in
    let g = related_agree R B G S U r scoped.1 in
    (λ h. (f.0 h.0, g.0 h.1), λ h. (f.1 h.0, g.1 h.1))
related_agree R B (step a F) S U r scoped =
    let same = B.as_many S U r in (
      carried R F a (B.forth S U r) scoped.0
          (λ S' U' r' d. (related_agree R B F S' U' r' (rw (step_outputs d) scoped.1)).0),
      carried (λ W X. R X W) F a (B.back S U r) (rw (← same) scoped.0)
          (λ U' S' r' d. (related_agree R B F S' U' r' (rw (B.as_many S' U' r', step_outputs d, ← same) scoped.1)).1),
    )

-- A formula that is true of one state and not of the other excludes every bisimulation that relates them.
pub excluded {ℓ} : (R : State → State → Type ℓ) → Bisimulation R → (F : Formula) (S U : State) → FormulaScoped (outputs S) F
    → True F S → ¬ (True F U) → ¬ (R S U)
excluded R B F S U scoped h g r = g ((related_agree R B F S U r scoped).0 h)

pub equality_bisimulates : EqualityBisimulates
equality_bisimulates = record {
  as_many = λ S U e. ap outputs e;
  static = λ S U e. rw e (λ M N m n. Iff.rfl);
  forth = λ S U e a scoped S' d. ∣ (S', rw e at d, refl) ∣₁;
  back = λ S U e a scoped U' d. ∣ (U', rw (← e) at d, refl) ∣₁;
}
