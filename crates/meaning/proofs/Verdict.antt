-- The verdict is the answer that the rules give, and demand 3, both halves: exactly when a finding is accepted, and what an
-- accepted finding excludes.
pub mod Sorting
pub mod Work
pub mod NameRange
use mathlib.Core.Path.{◌≡◌, refl, sym, ap, ap₂, ◌∙◌, subst}
use mathlib.Core.Logic.{◌↔◌}
use mathlib.Core.Bool.{Bool, true, false, ◌||◌}
use mathlib.Core.List.{List}
use Prim.Native.Nat.{ℕ, ◌+◌}
use native.Mathlib.Omega.{arith}
use borrow.Author.Tests.{ltb-true, ltb-false, lt-ltb, le-ltb}
use lib.Dec.{T, ltb}
use lib.Ieee.Bits.{is_true}
use lib.ListN.{length-append}
use Rattle.meaning.specs.Bytes.Process.{Process}
use Rattle.meaning.specs.Bytes.Formula.{Formula}
use Rattle.meaning.specs.Bytes.WellFormed.{IsModel}
use Rattle.meaning.specs.Steps.State.{start}
use Rattle.meaning.specs.Logic.Truth.{TrueOf, any_of}
use Rattle.meaning.specs.Judging.Visits.{start_arrival, visits, meets, visits_both, count_of, MeetsNoLimit}
use Rattle.meaning.specs.Judging.{judge_model}
use Rattle.meaning.specs.Verdict.{Answer, Input, good, bad, ranked, judged, verdict_on, verdict}
use Rattle.meaning.specs.Verdict.Answered.{Sorted, formed, Ranked, over_budget, limit_met, false_of_first, true_of_both, accepted, Answered, input_refused}
use Rattle.meaning.specs.Theorems.{VerdictExact, AcceptedExcludes, Acceptable, AcceptedExactly}
use Rattle.meaning.proofs.Test.{is_false, some_passes, passes_some, none_passes, passes_none, any_append, some_map}
use Rattle.meaning.proofs.Every.{every_parts}
use Rattle.meaning.proofs.Bytes.Reading.{models_read}
use Rattle.meaning.proofs.Logic.Bisimulation.{excluded}
use Rattle.meaning.proofs.Judging.Visits.{visits_counted}
use Rattle.meaning.proofs.Judging.{judged_truth}
use Rattle.meaning.proofs.Verdict.Sorting.{sorted, sorted_once, input_refused_by}

-- Two models and a formula.
module _ (P Q : Process) (F : Formula) (budget : ℕ) where
  -- They are ranked by the visits of judging.
  by_visits : judged P Q F budget ≡
      ranked (ltb budget (count_of P Q F)) (any_of meets (visits_both P Q F)) (judge_model F P).truth (judge_model F Q).truth
      (count_of P Q F) budget
  unfolding judged judge_model
  by_visits =
      let p = visits_counted F (start_arrival P) in
      let q = visits_counted F (start_arrival Q) in
      let vs = visits F (start_arrival P) in
      let ws = visits F (start_arrival Q) in
      let count : (judge_model F P).count + (judge_model F Q).count ≡ count_of P Q F = omega (arith, length-append vs ws) in
      let limited : ((judge_model F P).limited || (judge_model F Q).limited) ≡ any_of meets (visits_both P Q F) =
      ap₂ (λ a b. a || b) p.1 q.1 ∙ sym (any_append meets vs ws) in
      ap₂ (λ n b. ranked (ltb budget n) b (judge_model F P).truth (judge_model F Q).truth n budget) count limited

  -- Where no visit met a limit, what is judged of each model is its truth.
  judged_first : MeetsNoLimit P Q F → T (judge_model F P).truth ↔ TrueOf F P
  unfolding judge_model
  judged_first u = judged_truth F (start_arrival P) (every_parts (visits F (start_arrival P)) u).0

  judged_second : MeetsNoLimit P Q F → T (judge_model F Q).truth ↔ TrueOf F Q
  unfolding judge_model
  judged_second u = judged_truth F (start_arrival Q) (every_parts (visits F (start_arrival P)) u).1

  -- The rank is one that the rules give.
  rank : (spent limited f s : Bool) → ltb budget (count_of P Q F) ≡ spent → any_of meets (visits_both P Q F) ≡ limited
      → (judge_model F P).truth ≡ f → (judge_model F Q).truth ≡ s
      → Ranked P Q F budget (ranked spent limited f s (count_of P Q F) budget)
  rank true limited f s h l e g = over_budget (ltb-true budget (count_of P Q F) h)
  rank false true f s h l e g =
      limit_met (ltb-false budget (count_of P Q F) h)
      (some_map (λ v. is_true (meets v)) (passes_some meets (visits_both P Q F) (rw l tt)))
  rank false false false s h l e g =
      let u = passes_none meets (visits_both P Q F) l in
      false_of_first (ltb-false budget (count_of P Q F) h) u (λ t. rw e at ((judged_first u).1 t))
  rank false false true true h l e g =
      let u = passes_none meets (visits_both P Q F) l in
      true_of_both (ltb-false budget (count_of P Q F) h) u ((judged_first u).0 (rw e tt)) ((judged_second u).0 (rw g tt))
  rank false false true false h l e g =
      let u = passes_none meets (visits_both P Q F) l in
      accepted (ltb-false budget (count_of P Q F) h) u ((judged_first u).0 (rw e tt)) (λ t. rw g at ((judged_second u).1 t))

  ranked_so : Ranked P Q F budget (judged P Q F budget)
  ranked_so = rw by_visits (rank _ _ _ _ refl refl refl refl)

  -- And the rules give no other.
  ranked_once : {a : Answer} → Ranked P Q F budget a → judged P Q F budget ≡ a
  ranked_once (over_budget h) = rw (by_visits, lt-ltb budget (count_of P Q F) h)
  ranked_once (limit_met h m) =
      let limited = is_true (any_of meets (visits_both P Q F)) (some_passes meets (some_map (λ v e. rw e tt) m)) in
      rw (by_visits, le-ltb budget (count_of P Q F) h, limited)
  ranked_once (false_of_first h u n) =
      let first = is_false (judge_model F P).truth (λ t. n ((judged_first u).0 t)) in
      rw (by_visits, le-ltb budget (count_of P Q F) h, none_passes meets u, first)
  ranked_once (true_of_both h u t t') =
      let first = is_true (judge_model F P).truth ((judged_first u).1 t) in
      let second = is_true (judge_model F Q).truth ((judged_second u).1 t') in
      rw (by_visits, le-ltb budget (count_of P Q F) h, none_passes meets u, first, second)
  ranked_once (accepted h u t n) =
      let first = is_true (judge_model F P).truth ((judged_first u).1 t) in
      let second = is_false (judge_model F Q).truth (λ t'. n ((judged_second u).0 t')) in
      rw (by_visits, le-ltb budget (count_of P Q F) h, none_passes meets u, first, second)

-- The verdict on an input, however it was sorted.
module _ {s₁ s₂ s₃ : List ℕ} {work : ℕ} (budget : ℕ) where
  answered : {i : Input} → Sorted s₁ s₂ s₃ work i → Answered s₁ s₂ s₃ work budget (verdict_on i budget)
  unfolding verdict_on
  answered {i = good P Q F} i = Answered.judged i (ranked_so P Q F budget)
  answered {i = bad n slice place} i = input_refused i

  answered_once : {a : Answer} → Answered s₁ s₂ s₃ work budget a → verdict s₁ s₂ s₃ work budget ≡ a
  unfolding verdict verdict_on
  answered_once (input_refused i) = ap (λ x. verdict_on x budget) (sorted_once s₁ s₂ s₃ work i)
  answered_once (Answered.judged {P = P} {Q = Q} {F = F} i r) =
      ap (λ x. verdict_on x budget) (sorted_once s₁ s₂ s₃ work i) ∙ ranked_once P Q F budget r

  -- The one answer with result 0.
  acceptably : {P Q : Process} {F : Formula} {a : Answer} → Sorted s₁ s₂ s₃ work (good P Q F) → Ranked P Q F budget a → a.result ≡ 0
      → Acceptable s₁ s₂ s₃ work budget
  acceptably i (over_budget h) z = absurd (omega arith)
  acceptably i (limit_met h m) z = absurd (omega arith)
  acceptably i (false_of_first h u n) z = absurd (omega arith)
  acceptably i (true_of_both h u t t') z = absurd (omega arith)
  acceptably {P} {Q} {F} (formed f) (accepted h u t n) z =
      record { P = P; Q = Q; F = F; formed = f; true_of_first = t; false_of_second = n; within_budget = h; unlimited = u }

  acceptable : {a : Answer} → Answered s₁ s₂ s₃ work budget a → a.result ≡ 0 → Acceptable s₁ s₂ s₃ work budget
  acceptable (input_refused i) z = let n = input_refused_by i in absurd (omega arith)
  acceptable (Answered.judged i r) z = acceptably i r z

pub verdict_exact : VerdictExact
unfolding verdict
verdict_exact s₁ s₂ s₃ work budget b₁ b₂ b₃ a = (
  λ e. subst (Answered s₁ s₂ s₃ work budget) e (answered budget (sorted s₁ s₂ s₃ work b₁ b₂ b₃)),
  answered_once budget,
)

pub accepted_exactly : AcceptedExactly
accepted_exactly s₁ s₂ s₃ work budget b₁ b₂ b₃ = (
  acceptable budget ((verdict_exact s₁ s₂ s₃ work budget b₁ b₂ b₃ (verdict s₁ s₂ s₃ work budget)).0 refl),
  λ a.
      let accepts = accepted a.within_budget a.unlimited a.true_of_first a.false_of_second in
      ap (λ x. x.result) (answered_once budget (Answered.judged (formed a.formed) accepts)),
)

-- A slice has one tree.
one_model : {s : List ℕ} {P Q : Process} → IsModel s P → IsModel s Q → P ≡ Q
one_model {s} {P} {Q} p q =
    let f = (models_read s P).0 p in
    let g = (models_read s Q).0 q in
    cc

pub accepted_excludes {ℓ} : AcceptedExcludes {ℓ}
unfolding start
accepted_excludes s₁ s₂ s₃ work budget b₁ b₂ b₃ h P Q p q R B =
    let a = (accepted_exactly s₁ s₂ s₃ work budget b₁ b₂ b₃).0 h in
    rw (one_model p a.formed.first, one_model q a.formed.second)
    (excluded R B a.F (start a.P) (start a.Q) a.formed.third.scoped a.true_of_first a.false_of_second)
