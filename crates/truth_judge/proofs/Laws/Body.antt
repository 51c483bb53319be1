-- The body of a step formula, judged or as it is memoised, and added to what the steps came to ("Judging and its count").
use Rattle.std.specs.Prelude.{Option, Some, None}
use Rattle.std.specs.declared.ops.ControlFlow.TheVariants.{Continue, Break}
use mathlib.Core.Path.{◌≡◌, sym, ap, subst, ◌∙◌}
use mathlib.Core.Bool.{Bool, ◌||◌}
use mathlib.Core.List.{List}
use Prim.Native.Nat.{ℕ, ◌-◌}
use native.Mathlib.Omega.{arith}
use Rattle.state_record.specs.declared.state.State as code
use Rattle.step_label.specs.declared.step.Step as step
use Rattle.truth_body.specs.Judged.{judged_of}
use Rattle.truth_body.specs.Reached.{Here, Reached}
use Rattle.truth_body.specs.Memo.{memoised, Applies, Charges}
use Rattle.truth_judge.specs.Visit.{Judges}
use Rattle.truth_judge.specs.Steps.{JudgesBody, Counts}
use Rattle.truth_body.specs.declared.judged.Judged.{Judged}
use Rattle.truth_body.specs.declared.memo.Memo.{Memo}
use Rattle.truth_body.specs.declared.memo.Memo.TheVariants.{Each}
use Rattle.truth_body.proofs.Laws.Budget.{counted}
use Rattle.truth_body.proofs.Laws.Reached.{kept_same}

-- What a body comes to, by judging it or as it is known.
module _ {memo : Memo} {s f m out : List ℕ} {at depth left : ℕ} {formed : Option code.State} {r : Option Judged} where
  pub body_judged : {after : List ℕ} → Judges s f at depth formed m out left r after → JudgesBody memo s f at depth formed m out left r after
  body_judged judges = record { exact = λ F A stands reached room is. judges.exact F A stands reached room }

  pub body_memo : {k : Memo} {t l : Bool} {n : ℕ} → Applies memo formed k → k ≡ Each t l n → Charges t l n left r
      → JudgesBody memo s f at depth formed m out left r out
  body_memo {t = t} {l} {n} applies e charges = record {
    exact = λ F A {steps} stands reached room is.
        let (same, (st, formed-at)) = applies.there t l n e in
        let here : Here s out st A steps = subst (λ (g : Option code.State). Reached s out g A steps) formed-at reached in
        let j = is.same t l n same here.free in (
          charges.exact (omega (arith, counted F A, ap (λ j. j.count) j)) ∙ ap (judged_of left) (sym j),
          kept_same formed out,
        );
  }

pub ruleset bodies = (body_judged, body_memo)

-- A body that is added to what the steps came to.
module _ {memo : Memo} {s f m out after : List ℕ} {body depth : ℕ} {g : Option code.State} {sum : Judged} {j : Option Judged}
    (judges : JudgesBody memo s f body depth g m out sum.left j after) (v : step.Step) where
  pub counts_done : {d : Judged} {a b : Bool} {k : Memo} → j ≡ Some d → a ≡ (sum.truth || d.truth) → b ≡ (sum.limited || d.limited)
      → k ≡ memoised memo g d.truth d.limited (sum.left - d.left)
      → Counts memo s f body depth v g m out sum
      (Continue (record { found = v; sum = record { truth = a; limited = b; left = d.left }; memo = k })) after
  counts_done e p q k = record { judged = j; judges = judges; answer = rw (p, q, k, e) }

  pub counts_spent : j ≡ None → Counts memo s f body depth v g m out sum (Break None) after
  counts_spent e = record { judged = j; judges = judges; answer = rw e }

pub ruleset countings = (counts_done, counts_spent)
