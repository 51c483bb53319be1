-- A formula judged of a model ("Judging and its count").
use Rattle.std.specs.Prelude.{◌≡◌, Option, List, ℕ}
use Rattle.meaning.specs.Bytes.Process.{Process}
use Rattle.meaning.specs.Bytes.Formula.{Formula}
use Rattle.meaning.specs.Bytes.WellFormed.{IsModel}
use Rattle.meaning.specs.Judging.{judge_model}
use Rattle.state_layout.specs.Layout.{ModelIn}
use Rattle.truth_label.specs.Place.{FormulaIn}
use Rattle.truth_body.specs.Judged.{judged_of}
use Rattle.truth_body.specs.declared.judged.Judged.{Judged}

-- Of whatever model the first slice is and whatever formula stands in the second with its index, the answer is what judging comes to.
pub record JudgesModel (s f : List ℕ) (budget : ℕ) (r : Option Judged) : Type 0 where
  pub exact : (P : Process) (F : Formula) → IsModel s P → FormulaIn f F → r ≡ judged_of budget (judge_model F P)

-- The same of whatever model stands in a slice with its index.
pub record JudgesIndexed (s f : List ℕ) (budget : ℕ) (r : Option Judged) : Type 0 where
  pub exact : (P : Process) (F : Formula) → ModelIn s P → FormulaIn f F → r ≡ judged_of budget (judge_model F P)
