-- No input is answered with 5 ("Turned back for the input"; request 2.2).
use mathlib.Core.Path.{◌≡◌, subst}
use mathlib.Core.Logic.{⊎_elim}
use mathlib.Core.List.{List}
use Prim.Native.Nat.{ℕ}
use native.Mathlib.Omega.{arith}
use Rattle.meaning.specs.Bytes.WellFormed.{Bytes}
use Rattle.meaning.specs.Verdict.{Input, bad, good, verdict_on, verdict}
use Rattle.meaning.specs.Verdict.Answered.{Sorted, first_refused, second_refused, formula_refused}
use Rattle.meaning.specs.Theorems.{NeverAnsweredNameRange}
use Rattle.meaning.proofs.Bytes.NameRange.{never_name_range}
use Rattle.meaning.proofs.Verdict.Sorting.{sorted}
use Rattle.meaning.proofs.Verdict.Work.{judged_result}

module _ {s₁ s₂ s₃ : List ℕ} {work : ℕ} (b₁ : Bytes s₁) (b₂ : Bytes s₂) (b₃ : Bytes s₃) where
  turned-back : {slice place : ℕ} → ¬ (Sorted s₁ s₂ s₃ work (bad 5 slice place))
  turned-back (first_refused long r) = never_name_range s₁ b₁ _ _ r
  turned-back (second_refused long m r) = never_name_range s₂ b₂ _ _ r
  turned-back (formula_refused long m k r) = never_name_range s₃ b₃ _ _ r

  answered : (budget : ℕ) {i : Input} → Sorted s₁ s₂ s₃ work i → ¬ ((verdict_on i budget).result ≡ 5)
  unfolding verdict_on
  answered budget {i = bad n slice place} i z = turned-back (subst (λ k. Sorted s₁ s₂ s₃ work (bad k slice place)) z i)
  answered budget {i = good P Q F} i z = ⊎_elim (λ e. omega arith) (λ e. omega arith) (judged_result P Q F budget)

pub never_answered_name_range : NeverAnsweredNameRange
unfolding verdict
never_answered_name_range s₁ s₂ s₃ work budget b₁ b₂ b₃ = answered b₁ b₂ b₃ budget (sorted s₁ s₂ s₃ work b₁ b₂ b₃)
