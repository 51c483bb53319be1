-- Formulas are refused truly, a seventeenth step formula among the refusals ("Turned back for the input").
use Prim.Native.Nat.{ℕ, zero, suc, ◌<◌, ◌-◌}
use mathlib.Core.Path.{◌≡◌}
use mathlib.Core.Bool.{not}
use mathlib.Core.List.{List, ◌++◌}
use mathlib.Core.Option.{some}
use native.Mathlib.Nat.{not-suc-le-zero}
use lib.Dec.{T, ltb, ltb→lt, nltb→le}
use lib.ListN.{get_elem?}
use Rattle.meaning.specs.Bytes.Kind.{FormulaKind, formula_kinds}
use Rattle.meaning.specs.Bytes.Number.{Read}
use Rattle.meaning.specs.Bytes.Formula.{Formula}
use Rattle.meaning.specs.Bytes.Reading as Reader
use Rattle.meaning.specs.Bytes.Refusal.{Field, Due, in_formula, StepKind, TooDeep, formula-node, formula_fields}
use Rattle.meaning.proofs.Bytes.Reader.{holds, and-then}
use Rattle.meaning.proofs.Bytes.Refusal.Sound.{Leaves, Reads, through}
use Rattle.meaning.proofs.Bytes.Refusal.Kind.{kind_sound, never_sound}
use Rattle.meaning.proofs.Bytes.Refusal.Term.{term_sound}

-- A step formula that may stand has some left, and what may not stand is a step formula with none left.
some_left : (steps : ℕ) {k : FormulaKind} → T (Reader.steps_left steps k) → StepKind k → 0 < steps
some_left steps t StepKind.output = ltb→lt 0 steps t
some_left steps t StepKind.input = ltb→lt 0 steps t
some_left steps t StepKind.silent = ltb→lt 0 steps t

no_step : {left scope n : ℕ} (steps : ℕ) {k : FormulaKind} → get_elem? formula_kinds n ≡ some k → StepKind k
    → T (not (ltb 0 steps)) → TooDeep (Field.formula (suc left) steps scope) n
no_step zero is step t = TooDeep.step is step
no_step (suc steps) is step t = absurd (not-suc-le-zero (nltb→le 0 (suc steps) t))

none_left : {left scope n : ℕ} (steps : ℕ) (k : FormulaKind) → get_elem? formula_kinds n ≡ some k
    → T (not (Reader.steps_left steps k)) → TooDeep (Field.formula (suc left) steps scope) n
none_left steps FormulaKind.equal is t = absurd t
none_left steps FormulaKind.not is t = absurd t
none_left steps FormulaKind.and is t = absurd t
none_left steps FormulaKind.output is t = no_step steps is StepKind.output t
none_left steps FormulaKind.input is t = no_step steps is StepKind.input t
none_left steps FormulaKind.silent is t = no_step steps is StepKind.silent t

module _ {s : List ℕ} {root : Field} where
  -- The fields of a kind, with any reader of its parts.
  fields_sound : (left steps scope : ℕ) (part : ℕ → ℕ → ℕ → Read Formula)
      → ((steps scope : ℕ) → Reads s root (Field.formula left steps scope) (part steps scope))
      → (k : FormulaKind) (at : ℕ) (fs : List Field) → Due s root at (formula_fields left steps scope k ++ fs)
      → Leaves s root fs (Reader.formula_fields part steps scope s k at)
  unfolding Reader.formula_fields
  fields_sound left steps scope part h FormulaKind.equal at fs d =
      through (term_sound 8 scope) d (λ M e₁ d. through (term_sound 8 scope) d (λ N end d. holds d))
  fields_sound left steps scope part h FormulaKind.not at fs d = through (h steps scope) d (λ F end d. holds d)
  fields_sound left steps scope part h FormulaKind.and at fs d =
      through (h steps scope) d (λ F e₁ d. through (h steps scope) d (λ G end d. holds d))
  fields_sound left steps scope part h FormulaKind.output at fs d =
      through (term_sound 8 scope) d (λ C e₁ d. through (h (steps - 1) (suc scope)) d (λ F end d. holds d))
  fields_sound left steps scope part h FormulaKind.input at fs d =
      through (term_sound 8 scope) d (λ C e₁ d. through (term_sound 8 scope) d (λ M e₂ d.
      through (h (steps - 1) scope) d (λ F end d. holds d)))
  fields_sound left steps scope part h FormulaKind.silent at fs d = through (h (steps - 1) scope) d (λ F end d. holds d)

  pub formula-sound : (left steps scope : ℕ) → Reads s root (Field.formula left steps scope) (Reader.formula left steps scope s)
  unfolding Reader.formula
  formula-sound zero steps scope at fs d = never_sound d formula_kinds (λ n h. h) (λ n h. formula-node h)
  formula-sound (suc left) steps scope at fs d =
      and-then (kind_sound d formula_kinds (λ n h. h) (Reader.steps_left steps) (λ n k is t. none_left steps k is t))
      (λ k end (n, read, is, t). fields_sound left steps scope (λ m n e. Reader.formula left m n s e) (formula-sound left)
      k end fs (in_formula d read is (some_left steps t)))
