-- What a visit comes to, by whether its state is over a limit ("Judging and its count").
use mathlib.Core.Path.{◌≡◌, refl, ap}
use mathlib.Core.Bool.{Bool, true, false, ◌||◌}
use mathlib.Core.List.{map}
use Rattle.meaning.specs.Messages.Term.{Recipe}
use Rattle.meaning.specs.Messages.Normal.{equal}
use Rattle.meaning.specs.Bytes.Formula.{Label, Formula}
use Rattle.meaning.specs.Steps.State.{written}
use Rattle.meaning.specs.Judging.{Judgement, visit, negated, both, some_of, judge}
use Rattle.meaning.specs.Judging.Limits.{over, over_label, over_recipes}
use Rattle.meaning.specs.Judging.Visits.{Arrival, arrivals, at, meets}
use Rattle.state_layout.specs.Layout.{over_arrival}

-- A visit that met a limit.
abbrev pub limit : Judgement
limit = record { truth = false; count = 1; limited = true }

-- Two recipes, within the limits.
abbrev pub compared : Arrival → (M N : Recipe) → Judgement
compared A M N =
    record { truth = equal (written A.state.aliases M) (written A.state.aliases N); count = 1; limited = false }

or-true : (a b : Bool) → a ≡ true → (a || b) ≡ true
or-true true b e = refl
or-true false b e = absurd_false e
  where
    absurd_false : false ≡ true → (false || b) ≡ true
    absurd_false e = cc

or_left : (a b : Bool) → a ≡ false → (a || b) ≡ b
or_left a b e = rw e

pub meets_over : (F : Formula) (A : Arrival) → over_arrival A ≡ true → meets (at F A) ≡ true
unfolding meets
meets_over F A e = or-true (over_arrival A) _ e

pub meets_within : (F : Formula) (A : Arrival) → over_arrival A ≡ false → meets (at F A) ≡ over_recipes A.state.aliases F
unfolding meets
meets_within F A e = or_left (over_arrival A) _ e

-- A state over a limit: whatever the formula is, the visit goes no further.
pub judge_over : (F : Formula) (A : Arrival) → over_arrival A ≡ true → judge F A ≡ limit
unfolding judge
judge_over (Formula.equal M N) A e = rw (meets_over (Formula.equal M N) A e)
judge_over (Formula.not F) A e = rw (meets_over (Formula.not F) A e)
judge_over (Formula.and F G) A e = rw (meets_over (Formula.and F G) A e)
judge_over (Formula.step a F) A e = rw (meets_over (Formula.step a F) A e)

-- Else the recipes of the formula may still meet one.
module _ (A : Arrival) (e : over_arrival A ≡ false) where
  pub judge_equal : (M N : Recipe) → judge (Formula.equal M N) A
      ≡ visit (over A.state.aliases M || over A.state.aliases N) (λ _. compared A M N)
  unfolding judge over_recipes
  judge_equal M N = ap (λ b. visit b (λ _. compared A M N)) (meets_within (Formula.equal M N) A e)

  pub judge_not : (F : Formula) → judge (Formula.not F) A ≡ negated (judge F A)
  unfolding judge over_recipes
  judge_not F = ap (λ b. visit b (λ _. negated (judge F A))) (meets_within (Formula.not F) A e)

  pub judge_and : (F G : Formula) → judge (Formula.and F G) A ≡ both (judge F A) (judge G A)
  unfolding judge over_recipes
  judge_and F G = ap (λ b. visit b (λ _. both (judge F A) (judge G A))) (meets_within (Formula.and F G) A e)

  pub judge_step : (a : Label) (F : Formula) → judge (Formula.step a F) A
      ≡ visit (over_label A.state.aliases a) (λ _. some_of (map (judge F) (arrivals A.state a)))
  unfolding judge over_recipes
  judge_step a F = ap (λ b. visit b (λ _. some_of (map (judge F) (arrivals A.state a)))) (meets_within (Formula.step a F) A e)
