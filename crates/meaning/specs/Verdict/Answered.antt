-- The answer to each input, rule by rule, apart from the verdict that works it out ("Turned back for the input", "Turned back
-- for the state").
use Rattle.std.specs.Prelude.{◌≡◌, true, List, ℕ, ◌≤◌, ◌<◌}
use Rattle.meaning.specs.Bytes.Process.{Process}
use Rattle.meaning.specs.Bytes.Formula.{Formula}
use Rattle.meaning.specs.Bytes.WellFormed.{IsModel, IsFormula}
use Rattle.meaning.specs.Bytes.Refusal.{Refusal, process, formula}
use Rattle.meaning.specs.Places.{Some}
use Rattle.meaning.specs.Logic.Truth.{TrueOf}
use Rattle.meaning.specs.Judging.Visits.{meets, visits_both, count_of, MeetsNoLimit}
use Rattle.meaning.specs.Verdict.{Answer, answer, work_bytes, Input, good, bad}

-- Nothing turns the input back, and these are its trees.
pub record Formed (s₁ s₂ s₃ : List ℕ) (work : ℕ) (P Q : Process) (F : Formula) : Type 0 where
  pub long_enough : work_bytes ≤ work
  pub first : IsModel s₁ P
  pub second : IsModel s₂ Q
  pub third : IsFormula s₃ F

-- What becomes of an input: 9 first, then the slices in their order.
pub data Sorted (s₁ s₂ s₃ : List ℕ) (work : ℕ) : Input → Type 0 where
  buffer_short : work < work_bytes → Sorted s₁ s₂ s₃ work (bad 9 0 0)
  first_refused : {n p : ℕ} → work_bytes ≤ work → Refusal s₁ (process 64 0) n p → Sorted s₁ s₂ s₃ work (bad n 1 p)
  second_refused : {n p : ℕ} {P : Process} → work_bytes ≤ work → IsModel s₁ P → Refusal s₂ (process 64 0) n p
      → Sorted s₁ s₂ s₃ work (bad n 2 p)
  formula_refused : {n p : ℕ} {P Q : Process} → work_bytes ≤ work → IsModel s₁ P → IsModel s₂ Q
      → Refusal s₃ (formula 48 16 0) n p → Sorted s₁ s₂ s₃ work (bad n 3 p)
  formed : {P Q : Process} {F : Formula} → Formed s₁ s₂ s₃ work P Q F → Sorted s₁ s₂ s₃ work (good P Q F)

-- What becomes of two models and a formula, in the order 10, 11, 12, 13, 0.
pub data Ranked (P Q : Process) (F : Formula) (budget : ℕ) : Answer → Type 0 where
  over_budget : budget < count_of P Q F → Ranked P Q F budget (answer 10 budget)
  limit_met : count_of P Q F ≤ budget → Some (λ v. meets v ≡ true) (visits_both P Q F) → Ranked P Q F budget (answer 11 (count_of P Q F))
  false_of_first : count_of P Q F ≤ budget → MeetsNoLimit P Q F → ¬ (TrueOf F P) → Ranked P Q F budget (answer 12 (count_of P Q F))
  true_of_both : count_of P Q F ≤ budget → MeetsNoLimit P Q F → TrueOf F P → TrueOf F Q
      → Ranked P Q F budget (answer 13 (count_of P Q F))
  accepted : count_of P Q F ≤ budget → MeetsNoLimit P Q F → TrueOf F P → ¬ (TrueOf F Q)
      → Ranked P Q F budget (answer 0 (count_of P Q F))

-- The four numbers.
pub data Answered (s₁ s₂ s₃ : List ℕ) (work budget : ℕ) : Answer → Type 0 where
  input_refused : {n slice place : ℕ} → Sorted s₁ s₂ s₃ work (bad n slice place)
      → Answered s₁ s₂ s₃ work budget (record { result = n; slice = slice; place = place; count = 0 })
  judged : {P Q : Process} {F : Formula} {a : Answer} → Sorted s₁ s₂ s₃ work (good P Q F) → Ranked P Q F budget a
      → Answered s₁ s₂ s₃ work budget a
