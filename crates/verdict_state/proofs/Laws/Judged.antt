-- Both models judged, by what each judging comes to ("Turned back for the state").
use Rattle.std.specs.Prelude.{Option, Some, None}
use mathlib.Core.Path.{◌≡◌}
use mathlib.Core.Bool.{Bool, true, false, not, ◌||◌}
use mathlib.Core.List.{List}
use Prim.Native.Nat.{ℕ, ◌+◌, ◌-◌, ◌≤◌}
use native.Mathlib.Nat.{le_refl}
use native.Mathlib.Omega.{arith}
use borrow.Author.Tests.{not-true, not-false, lt-ltb, le-ltb}
use Rattle.meaning.specs.Judging.{judge_model}
use Rattle.meaning.specs.Verdict.{Answer as Numbers, answer, ranked, judged}
use Rattle.index_formula.specs.Index.{Builds}
use Rattle.truth_label.proofs.Laws.Formula.{formula_in}
use Rattle.truth_body.specs.Judged.{Less}
use Rattle.verdict_state.specs.Model.{JudgesModel}
use Rattle.truth_body.proofs.Laws.Budget.{told_done, told_spent}
use Rattle.truth_body.specs.declared.judged.Judged.{Judged}
use Rattle.verdict_input.specs.declared.answer.Answer.{Answer}
use Rattle.verdict_input.specs.Answer.{numbers}
use Rattle.verdict_state.specs.Models.{JudgesBoth, JudgesBothIndexed}

-- In their order.
module _ (limited first second : Bool) (count budget : ℕ) {x : Numbers} where
  pub is_limited : limited ≡ true → x ≡ answer 11 count → x ≡ ranked false limited first second count budget
  is_limited l e = rw l e

  module _ (l : limited ≡ false) where
    pub is_false : not first ≡ true → x ≡ answer 12 count → x ≡ ranked false limited first second count budget
    is_false f e = rw (l, not-true first f) e

    module _ (f : not first ≡ false) where
      pub is_true : second ≡ true → x ≡ answer 13 count → x ≡ ranked false limited first second count budget
      is_true s e = rw (l, not-false first f, s) e

      pub is_accepted : second ≡ false → x ≡ answer 0 count → x ≡ ranked false limited first second count budget
      is_accepted s e = rw (l, not-false first f, s) e

-- What is left is no more than there was.
pub left_below : {b budget : ℕ} {d : Judged} {r : Option Judged} → Less b r → r ≡ Some d → b ≤ budget → d.left ≤ budget
left_below {d = d} l f h = omega (arith, l.there d f)

-- Of both: the visits are more than the budget, in the first model or in the second, or they are not.
module _ (s₁ s₂ f : List ℕ) (budget : ℕ) {r : Option Judged} {a : Answer} (e : JudgesModel s₁ f budget r) where
  pub first_spent : r ≡ None → numbers a ≡ answer 10 budget → JudgesBothIndexed s₁ s₂ f budget a
  unfolding judged
  first_spent d g = record {
    exact = λ P Q F p q m.
        let more = told_spent budget (judge_model F P) (e.exact P F p m) d in
        rw (g, lt-ltb budget ((judge_model F P).count + (judge_model F Q).count) (omega arith));
  }

  module _ {j : Judged} {r' : Option Judged} (d : r ≡ Some j) (e' : JudgesModel s₂ f j.left r') where
    pub second_spent : r' ≡ None → numbers a ≡ answer 10 budget → JudgesBothIndexed s₁ s₂ f budget a
    unfolding judged
    second_spent d' g = record {
      exact = λ P Q F p q m.
          let w = told_done budget (judge_model F P) (e.exact P F p m) d in
          let more = told_spent j.left (judge_model F Q) (e'.exact Q F q m) d' in
          rw (g, lt-ltb budget ((judge_model F P).count + (judge_model F Q).count) (omega (arith, w.count, more)));
    }

    pub both_done : {k : Judged} → r' ≡ Some k
        → numbers a ≡ ranked false (j.limited || k.limited) j.truth k.truth (budget - k.left) budget → JudgesBothIndexed s₁ s₂ f budget a
    unfolding judged
    both_done {k} d' g = record {
      exact = λ P Q F p q m.
          let w = told_done budget (judge_model F P) (e.exact P F p m) d in
          let w' = told_done j.left (judge_model F Q) (e'.exact Q F q m) d' in
          let count : (judge_model F P).count + (judge_model F Q).count ≡ budget - k.left = omega (arith, w.count, w'.count) in
          rw (g, w.truth, w.limited, w'.truth, w'.limited, count, le-ltb budget (budget - k.left) (omega arith));
    }

-- A formula that was put into a slice with its index is the one that is judged.
pub judges_both : {s₁ s₂ formula f : List ℕ} {budget : ℕ} {a : Answer} → Builds formula f → JudgesBothIndexed s₁ s₂ f budget a
    → JudgesBoth s₁ s₂ formula budget a
judges_both b j = record { exact = λ P Q F p q m. j.exact P Q F p q (formula_in b m) }

pub ruleset ranks = (is_limited, is_false, is_true, is_accepted)

pub ruleset budgets = (le_refl, left_below)

pub ruleset judgings = (first_spent, second_spent, both_done)
