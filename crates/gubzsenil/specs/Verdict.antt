-- What a call promises: the four numbers, every work byte, and when a finding is accepted ("Turned back for the input";
-- "Turned back for the state").
use Rattle.std.specs.Prelude.{◌≡◌, ◌↔◌, Bool, false, List, ℕ, T, length}
use Rattle.meaning.specs.Bytes.Process.{Process}
use Rattle.meaning.specs.Bytes.WellFormed.{IsModel}
use Rattle.meaning.specs.Steps.State.{State, start}
use Rattle.meaning.specs.Logic.Bisimulation.{Bisimulation}
use Rattle.meaning.specs.Verdict.{verdict, work_after}
use Rattle.meaning.specs.Theorems.{Acceptable}
use Rattle.verdict_input.specs.declared.answer.Answer.{Answer}
use Rattle.verdict_input.specs.Answer.{numbers}

-- For the bytes of the three slices and of the work buffer and for the budget: the answer r, and the work bytes after the call.
pub record Promise (first second formula work : List ℕ) (budget : ℕ) (r : Answer) (after : List ℕ) : Type 0 where
  -- The four numbers are those of the verdict.
  pub answer : numbers r ≡ verdict first second formula (length work) budget
  -- Request 2.2: the result is never 5.
  pub never-name-range : ¬ (r.result ≡ 5)
  -- Every work byte is as the verdict leaves it.
  pub bytes : after ≡ work_after first second formula work
  -- Demand 3, first half: result 0 excludes every strong early bisimulation between the start states that is given by a test. A clause of a
  -- contract is of Type 0, and the relations on states are not; for all of them this is `AcceptedExcludes`.
  pub excludes : r.result ≡ 0 → (P Q : Process) → IsModel first P → IsModel second Q
      → (R : State → State → Bool) → Bisimulation (λ S U. T (R S U)) → R (start P) (start Q) ≡ false
  -- Demand 3, second half: the result is 0 exactly when the finding is acceptable.
  pub accepts : (r.result ≡ 0) ↔ Acceptable first second formula (length work) budget
