-- In any case a visit is taken off the budget, by the parts of a formula and by a turn ("Judging and its count").
use Rattle.std.specs.Prelude.{Option, Some, None}
use Rattle.std.specs.declared.ops.ControlFlow.TheVariants.{Continue, Break}
use mathlib.Core.Path.{◌≡◌, ap}
use mathlib.Core.Bool.{Bool}
use Prim.Native.Nat.{ℕ, ◌+◌, ◌-◌, ◌≤◌, ◌<◌}
use native.Mathlib.Omega.{arith}
use Rattle.step_label.specs.declared.step.Step as step
use Rattle.truth_body.specs.Judged.{done, Less}
use Rattle.truth_judge.specs.Steps.{Falls}
use Rattle.truth_body.specs.declared.judged.Judged.{Judged}
use Rattle.truth_body.specs.declared.memo.Memo.{Memo}
use Rattle.truth_body.proofs.Laws.Less.{less_spent, less_done}

-- By a visit, and by the parts of a formula.
pub less_here : (left : ℕ) {t l : Bool} → Less (left + 1) (done t l left)
less_here left = less_done (omega arith)

pub less_first : {left : ℕ} {t l : Bool} → (left ≡ 0 → ⊥) → Less left (done t l (left - 1))
less_first {left} some = let positive : 0 < left = omega arith in less_done (omega arith)

pub less_after : {left : ℕ} {a b : Bool} {d : Judged} {r : Option Judged} → Less left r → r ≡ Some d → Less (left + 1) (done a b d.left)
less_after {d = d} less e = less_done (omega (arith, less.there d e))

pub less_later : {left : ℕ} {a b : Bool} {d : Judged} {r : Option Judged} → Less left r → r ≡ Some d → Less left (done a b d.left)
less_later {d = d} less e = less_done (less.there d e)

pub less_both : {left : ℕ} {d : Judged} {r v : Option Judged} → Less left r → r ≡ Some d → Less d.left v → Less (left + 1) v
less_both {d = d} less e more = record { there = λ k f. omega (arith, less.there d e, more.there k f) }

pub less_more : {left : ℕ} {r : Option Judged} → Less left r → Less (left + 1) r
less_more less = record { there = λ j e. omega (arith, less.there j e) }

pub less_visit : {left : ℕ} {r : Option Judged} → (left ≡ 0 → ⊥) → Less (left - 1 + 1) r → Less left r
less_visit {left} some less = let same : left - 1 + 1 ≡ left = omega arith in rw same at less

pub ruleset lessening = (less_spent, less_here, less_first, less_after, less_later, less_both, less_more, less_visit)

-- By a turn.
pub falls_none : (sum : Judged) → Falls sum.left (Break (Some sum))
falls_none sum = record {
  goes = λ t e. absurd (let z : ◌≡◌ {A = ℕ} 0 1 = cc in omega arith);
  ends = λ j e. let same : sum.left ≡ j.left = cc in omega arith;
}

pub falls_spent : (left : ℕ) → Falls left (Break None)
falls_spent left = record {
  goes = λ t e. absurd (let z : ◌≡◌ {A = ℕ} 0 1 = cc in omega arith);
  ends = λ j e. absurd (let z : ◌≡◌ {A = ℕ} 0 1 = cc in omega arith);
}

pub falls_on : {left : ℕ} {a b : Bool} {d : Judged} {j : Option Judged} (v : step.Step) (memo : Memo) → Less left j → j ≡ Some d
    → Falls left (Continue (record { found = v; sum = record { truth = a; limited = b; left = d.left }; memo = memo }))
falls_on {left} {a} {b} {d} v memo less f = record {
  goes = λ t e. let same : record { truth = a; limited = b; left = d.left } ≡ t.sum = cc in omega (arith, less.there d f, ap (λ s. s.left) same);
  ends = λ j e. absurd (let z : ◌≡◌ {A = ℕ} 0 1 = cc in omega arith);
}

-- So what was taken off can be told.
pub visits_taken : {left : ℕ} {d : Judged} {j : Option Judged} → Less left j → j ≡ Some d → d.left ≤ left
visits_taken {d = d} less e = omega (arith, less.there d e)

pub ruleset falling = (falls_none, falls_spent, falls_on, visits_taken)
