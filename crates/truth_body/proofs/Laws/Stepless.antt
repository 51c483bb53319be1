-- Formulas without steps: no thread of a state matters to them ("Judging and its count").
use mathlib.Core.Path.{◌≡◌, refl, sym, ap, ap₂, ◌∙◌}
use mathlib.Core.Bool.{false, ◌||◌}
use native.Mathlib.Omega.{arith}
use Rattle.meaning.specs.Messages.Term.{Recipe}
use Rattle.meaning.specs.Messages.Normal.{equal}
use Rattle.meaning.specs.Bytes.Formula.{Formula}
use Rattle.meaning.specs.Bytes.Nesting.{step_depth}
use Rattle.meaning.specs.Steps.State.{Bound, written}
use Rattle.meaning.specs.Judging.{Judgement, visit, negated, both, judge}
use Rattle.meaning.specs.Judging.Limits.{over}
use Rattle.meaning.specs.Judging.Visits.{Arrival}
use Rattle.state_layout.specs.Layout.{over_arrival}
use Rattle.successor_threadless.specs.Threadless.{threadless_of}
use Rattle.successor_state.proofs.Laws.Leads.{threadless_free}
use Rattle.truth_body.proofs.Laws.Meets.{judge_equal, judge_not, judge_and}

-- A formula without steps looks at nothing but aliases: it is judged alike where they are the same, and so at the state without its threads.
abbrev equates : (M N : Recipe) → Bound → Judgement
equates M N ρ =
    visit (over ρ M || over ρ N) (λ _. record { truth = equal (written ρ M) (written ρ N); count = 1; limited = false })

pub stepless_same : (F : Formula) (A B : Arrival) → step_depth F ≡ 0 → over_arrival A ≡ false → over_arrival B ≡ false
    → A.state.aliases ≡ B.state.aliases → judge F A ≡ judge F B
stepless_same (Formula.equal M N) A B z a b e = judge_equal A a M N ∙ ap (equates M N) e ∙ sym (judge_equal B b M N)
stepless_same (Formula.not F) A B z a b e = judge_not A a F ∙ ap negated (stepless_same F A B z a b e) ∙ sym (judge_not B b F)
stepless_same (Formula.and F G) A B z a b e =
    judge_and A a F G
    ∙ ap₂ both (stepless_same F A B (omega arith) a b e) (stepless_same G A B (omega arith) a b e)
    ∙ sym (judge_and B b F G)
stepless_same (Formula.step a F) A B z free within e = absurd (omega arith)

pub stepless_judge : (F : Formula) (A : Arrival) → step_depth F ≡ 0 → over_arrival A ≡ false → judge F A ≡ judge F (threadless_of A)
stepless_judge F A z e = stepless_same F A (threadless_of A) z e (threadless_free A e) refl
