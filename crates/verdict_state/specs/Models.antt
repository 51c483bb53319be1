-- Both models judged ("Turned back for the state").
use Rattle.std.specs.Prelude.{◌≡◌, List, ℕ}
use Rattle.meaning.specs.Bytes.Process.{Process}
use Rattle.meaning.specs.Bytes.Formula.{Formula}
use Rattle.meaning.specs.Bytes.WellFormed.{IsModel, IsFormula}
use Rattle.meaning.specs.Verdict.{judged}
use Rattle.truth_label.specs.Place.{FormulaIn}
use Rattle.verdict_input.specs.declared.answer.Answer.{Answer}
use Rattle.verdict_input.specs.Answer.{numbers}

-- Of whatever models and formula the slices are, the answer is what judging both comes to.
pub record JudgesBoth (first second formula : List ℕ) (budget : ℕ) (r : Answer) : Type 0 where
  pub exact : (P Q : Process) (F : Formula) → IsModel first P → IsModel second Q → IsFormula formula F
      → numbers r ≡ judged P Q F budget

-- The same of whatever formula stands in the third slice with its index.
pub record JudgesBothIndexed (first second f : List ℕ) (budget : ℕ) (r : Answer) : Type 0 where
  pub exact : (P Q : Process) (F : Formula) → IsModel first P → IsModel second Q → FormulaIn f F → numbers r ≡ judged P Q F budget
