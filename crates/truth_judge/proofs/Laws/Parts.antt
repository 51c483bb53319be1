-- What judging comes to with a budget, part by part of a formula ("Judging and its count").
use Rattle.std.specs.Prelude.{Option, Some, None}
use mathlib.Core.Path.{◌≡◌, refl, ap, ◌∙◌}
use mathlib.Core.Bool.{Bool, true, false, not, ◌&&◌, ◌||◌}
use mathlib.Core.List.{List, [], ◌∷◌}
use Prim.Native.Nat.{ℕ, ◌+◌}
use native.Mathlib.Omega.{arith}
use Rattle.meaning.specs.Judging.{Judgement, negated, both, some_of}
use Rattle.truth_body.specs.Judged.{done, judged_of}
use Rattle.truth_judge.specs.Visit.{both_of}
use Rattle.truth_judge.specs.Steps.{some_with, to_come}
use Rattle.truth_body.specs.declared.judged.Judged.{Judged}
use Rattle.truth_body.proofs.Laws.Budget.{spent_as, done_as, told_done, told_spent, shifted, some_counted}

-- `not` and `and`.
module _ (left : ℕ) {r : Option Judged} (j : Judgement) (e : r ≡ judged_of left j) where
  pub not_done : {d : Judged} → r ≡ Some d → done (not d.truth) d.limited d.left ≡ judged_of (left + 1) (negated j)
  not_done d = let w = told_done left j e d in done_as (left + 1) (negated j) (omega (arith, w.count)) (ap not w.truth) w.limited

  pub not_spent : r ≡ None → None ≡ judged_of (left + 1) (negated j)
  not_spent d = spent_as (left + 1) (negated j) (omega (arith, told_spent left j e d))

  pub and_done : {d : Judged} {v : Option Judged} (k : Judgement) → r ≡ Some d → v ≡ judged_of d.left (both_of d k) → v ≡ judged_of (left + 1) (both j k)
  and_done {d} k g f =
      let w = told_done left j e g in
      f ∙ shifted d.left (left + 1) (both_of d k) (both j k) (ap (λ b. b && k.truth) w.truth)
      (ap (λ b. b || k.limited) w.limited) (omega (arith, w.count))

  pub and_spent : (k : Judgement) → r ≡ None → None ≡ judged_of (left + 1) (both j k)
  and_spent k d = spent_as (left + 1) (both j k) (omega (arith, told_spent left j e d))

-- The second side of `and`.
module _ {r : Option Judged} (sum : Judged) (k : Judgement) (e : r ≡ judged_of sum.left k) where
  pub second_done : {d : Judged} {a b : Bool} → r ≡ Some d → a ≡ (sum.truth && d.truth) → b ≡ (sum.limited || d.limited)
      → done a b d.left ≡ judged_of sum.left (both_of sum k)
  second_done d p q =
      let w = told_done sum.left k e d in
      done_as sum.left (both_of sum k) w.count (p ∙ ap (λ b. sum.truth && b) w.truth) (q ∙ ap (λ b. sum.limited || b) w.limited)

  pub second_spent : r ≡ None → None ≡ judged_of sum.left (both_of sum k)
  second_spent d = spent_as sum.left (both_of sum k) (told_spent sum.left k e d)

-- The steps of a formula.
or-false : (b : Bool) → b ≡ (b || false)
or-false true = refl
or-false false = refl

or_assoc : (a b c : Bool) → ((a || b) || c) ≡ (a || (b || c))
or_assoc true b c = refl
or_assoc false b c = refl

pub none_to_come : (sum : Judged) → Some sum ≡ to_come sum []
unfolding to_come some_of
none_to_come sum = done_as (sum.left + 1) (some_with sum (some_of [])) (omega arith) (or-false sum.truth) (or-false sum.limited)

module _ {r : Option Judged} (sum : Judged) (j : Judgement) (js : List Judgement) (e : r ≡ judged_of sum.left j) where
  pub spent_to_come : r ≡ None → None ≡ to_come sum (j ∷ js)
  unfolding to_come some_of
  spent_to_come d = spent_as (sum.left + 1) (some_with sum (some_of (j ∷ js))) (omega (arith, told_spent sum.left j e d, some_counted js))

  pub more_to_come : {d : Judged} {a b : Bool} → r ≡ Some d → a ≡ (sum.truth || d.truth) → b ≡ (sum.limited || d.limited)
      → to_come (record { truth = a; limited = b; left = d.left }) js ≡ to_come sum (j ∷ js)
  unfolding to_come some_of
  more_to_come {d} {a} {b} g p q =
      let w = told_done sum.left j e g in
      let k = some_of js in
      shifted (d.left + 1) (sum.left + 1) (some_with (record { truth = a; limited = b; left = d.left }) k) (some_with sum (some_of (j ∷ js)))
      (rw (p, w.truth) (or_assoc sum.truth j.truth k.truth))
      (rw (q, w.limited) (or_assoc sum.limited j.limited k.limited))
      (omega (arith, w.count))
