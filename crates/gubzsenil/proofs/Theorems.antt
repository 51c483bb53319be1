-- What a call that keeps its promise may answer ("Turned back for the state").
use mathlib.Core.Path.{◌≡◌, ap}
use mathlib.Core.Logic.{◌↔◌}
use mathlib.Core.List.{List}
use Prim.Native.Nat.{ℕ}
use Rattle.meaning.specs.Bytes.Process.{Process}
use Rattle.meaning.specs.Bytes.WellFormed.{Bytes, IsModel}
use Rattle.meaning.specs.Steps.State.{State, start}
use Rattle.meaning.specs.Logic.Bisimulation.{Bisimulation}
use Rattle.meaning.specs.Verdict.{verdict}
use Rattle.meaning.specs.Theorems.{Acceptable}
use Rattle.meaning.proofs.Bytes.Reading.{models_read}
use Rattle.meaning.proofs.Logic.Bisimulation.{excluded}
use Rattle.meaning.proofs.Verdict as verdicts
use Rattle.verdict_input.specs.declared.answer.Answer.{Answer}
use Rattle.verdict_input.specs.Answer.{numbers}
use Rattle.gubzsenil.specs.Theorems.{NeverAnsweredNameRange, AcceptedExcludes, AcceptedExactly}

-- The four numbers alone decide it.
pub accepted_by_numbers : (first second formula : List ℕ) (work budget : ℕ) → Bytes first → Bytes second → Bytes formula
    → (r : Answer) → numbers r ≡ verdict first second formula work budget → (r.result ≡ 0) ↔ Acceptable first second formula work budget
accepted_by_numbers first second formula work budget b₁ b₂ b₃ r e =
    rw (← ap (λ a. a.result) e) at (verdicts.accepted_exactly first second formula work budget b₁ b₂ b₃)

-- An acceptable finding tells the start states apart, whatever trees the slices are read as.
one_model : {s : List ℕ} {P Q : Process} → IsModel s P → IsModel s Q → P ≡ Q
one_model {s} {P} {Q} p q =
    let f = (models_read s P).0 p in
    let g = (models_read s Q).0 q in
    cc

pub acceptable_excludes {ℓ} : {first second formula : List ℕ} {work budget : ℕ} → Acceptable first second formula work budget
    → (P Q : Process) → IsModel first P → IsModel second Q → (R : State → State → Type ℓ) → Bisimulation R → ¬ (R (start P) (start Q))
unfolding start
acceptable_excludes a P Q p q R B =
    rw (one_model p a.formed.first, one_model q a.formed.second)
    (excluded R B a.F (start a.P) (start a.Q) a.formed.third.scoped a.true_of_first a.false_of_second)

pub never_answered_name_range : NeverAnsweredNameRange
never_answered_name_range first second formula work budget r after kept = kept.never-name-range

pub accepted_exactly : AcceptedExactly
accepted_exactly first second formula work budget r after kept = kept.accepts

pub accepted_excludes {ℓ} : AcceptedExcludes {ℓ}
accepted_excludes first second formula work budget r after kept zero = acceptable_excludes (kept.accepts.0 zero)
