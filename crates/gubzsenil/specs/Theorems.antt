-- The theorems on everything that a call may answer ("Turned back for the state"): whatever answer r and work bytes after keep the
-- promise. Their proofs are in proofs/Theorems.antt, under the same names in snake case.
use Rattle.std.specs.Prelude.{◌≡◌, ◌↔◌, List, ℕ, length}
use Rattle.meaning.specs.Bytes.Process.{Process}
use Rattle.meaning.specs.Bytes.WellFormed.{IsModel}
use Rattle.meaning.specs.Steps.State.{State, start}
use Rattle.meaning.specs.Logic.Bisimulation.{Bisimulation}
use Rattle.meaning.specs.Theorems.{Acceptable}
use Rattle.verdict_input.specs.declared.answer.Answer.{Answer}
use Rattle.gubzsenil.specs.Verdict.{Promise}

-- Request 2.2: the result is never 5.
abbrev pub NeverAnsweredNameRange : Type 0
NeverAnsweredNameRange =
    (first second formula work : List ℕ) (budget : ℕ) (r : Answer) (after : List ℕ)
    → Promise first second formula work budget r after → ¬ (r.result ≡ 5)

-- Demand 3, first half: result 0 excludes every strong early bisimulation between the start states.
abbrev pub AcceptedExcludes {ℓ} : Type (ℓ + 1)
AcceptedExcludes =
    (first second formula work : List ℕ) (budget : ℕ) (r : Answer) (after : List ℕ)
    → Promise first second formula work budget r after → r.result ≡ 0 → (P Q : Process) → IsModel first P → IsModel second Q
    → (R : State → State → Type ℓ) → Bisimulation R → ¬ (R (start P) (start Q))

-- Demand 3, second half: exactly when a finding is accepted.
abbrev pub AcceptedExactly : Type 0
AcceptedExactly =
    (first second formula work : List ℕ) (budget : ℕ) (r : Answer) (after : List ℕ)
    → Promise first second formula work budget r after → (r.result ≡ 0) ↔ Acceptable first second formula (length work) budget
