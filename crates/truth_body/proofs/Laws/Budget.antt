-- What judging comes to with a budget ("Judging and its count").
use Rattle.std.specs.Prelude.{Option, Some, None}
use mathlib.Core.Path.{◌≡◌, refl, sym, ◌∙◌}
use mathlib.Core.Bool.{Bool, true, false}
use mathlib.Core.List.{List, [], ◌∷◌}
use Prim.Native.Nat.{ℕ, ◌+◌, ◌-◌, ◌≤◌, ◌<◌}
use native.Mathlib.Omega.{arith}
use lib.Dec.{ltb}
use borrow.Author.Tests.{ltb-true, ltb-false, lt-ltb, le-ltb}
use Rattle.meaning.specs.Bytes.Formula.{Formula}
use Rattle.meaning.specs.Judging.{Judgement, visit, some_of, judge}
use Rattle.meaning.specs.Judging.Visits.{Arrival, at, meets}
use Rattle.truth_body.specs.Judged.{done, judged_of}
use Rattle.truth_body.specs.declared.judged.Judged.{Judged}

-- The count is over the budget, or it is not.
pub spent_as : (left : ℕ) (j : Judgement) → left < j.count → None ≡ judged_of left j
unfolding judged_of
spent_as left j h = rw (judged_of, lt-ltb left j.count h)

pub done_as : (left : ℕ) {n : ℕ} {t l : Bool} (j : Judgement) → j.count + n ≡ left → t ≡ j.truth → l ≡ j.limited → done t l n ≡ judged_of left j
unfolding judged_of
done_as left {n} j e t l =
    let h : j.count ≤ left = omega arith in
    let more : n ≡ left - j.count = omega arith in
    rw (judged_of, le-ltb left j.count h, t, l, more)

-- What an answer says.
pub record Told (left : ℕ) (j : Judgement) (d : Judged) : Type 0 where
  pub count : j.count + d.left ≡ left
  pub truth : d.truth ≡ j.truth
  pub limited : d.limited ≡ j.limited

pub told_done : (left : ℕ) {r : Option Judged} {d : Judged} (j : Judgement) → r ≡ judged_of left j → r ≡ Some d → Told left j d
unfolding judged_of
told_done left {r} {d} j e f = of (ltb left j.count) refl
  where
    of : (b : Bool) → ltb left j.count ≡ b → Told left j d
    of true g = absurd (let s : Some d ≡ None = sym f ∙ e ∙ sym (spent_as left j (ltb-true left j.count g)) in let z : ◌≡◌ {A = ℕ} 0 1 = cc in omega arith)
    of false g =
        let h : j.count ≤ left = ltb-false left j.count g in
        let s : Some d ≡ done j.truth j.limited (left - j.count) = sym f ∙ e ∙ sym (done_as left j (omega arith) refl refl) in
        let same : d ≡ record { truth = j.truth; limited = j.limited; left = left - j.count } = cc in
        rw same (record { count = omega arith; truth = refl; limited = refl })

pub told_judgement : {left : ℕ} {d : Judged} (j : Judgement) → Told left j d → j ≡ record { truth = d.truth; count = left - d.left; limited = d.limited }
told_judgement {left} {d} j w = let count : left - d.left ≡ j.count = omega (arith, w.count) in rw (w.truth, count, w.limited)

pub told_spent : (left : ℕ) {r : Option Judged} (j : Judgement) → r ≡ judged_of left j → r ≡ None → left < j.count
unfolding judged_of
told_spent left {r} j e d = of (ltb left j.count) refl
  where
    of : (b : Bool) → ltb left j.count ≡ b → left < j.count
    of true f = ltb-true left j.count f
    of false f =
        let h : j.count ≤ left = ltb-false left j.count f in
        let s : None ≡ done j.truth j.limited (left - j.count) = sym d ∙ e ∙ sym (done_as left j (omega arith) refl refl) in
        absurd (let z : ◌≡◌ {A = ℕ} 0 1 = cc in omega arith)

-- Budget and count may both be larger by as much.
pub shifted : (a b : ℕ) (j k : Judgement) → j.truth ≡ k.truth → j.limited ≡ k.limited → a + k.count ≡ b + j.count → judged_of a j ≡ judged_of b k
shifted a b j k t l e = of (ltb a j.count) refl
  where
    of : (x : Bool) → ltb a j.count ≡ x → judged_of a j ≡ judged_of b k
    of true f = let h = ltb-true a j.count f in sym (spent_as a j h) ∙ spent_as b k (omega arith)
    of false f =
        let h = ltb-false a j.count f in
        sym (done_as a {n = a - j.count} j (omega arith) refl refl) ∙ done_as b k (omega arith) t l

-- A visit counts.
pub some_counted : (js : List Judgement) → 1 ≤ (some_of js).count
unfolding some_of
some_counted [] = omega arith
some_counted (j ∷ js) = omega (arith, some_counted js)

visit_counted : (b : Bool) (further : Unit {0} → Judgement) → 1 ≤ (further tt).count → 1 ≤ (visit b further).count
visit_counted true further h = omega arith
visit_counted false further h = h

pub counted : (F : Formula) (A : Arrival) → 1 ≤ (judge F A).count
unfolding judge
counted (Formula.equal M N) A = visit_counted (meets (at (Formula.equal M N) A)) _ (omega arith)
counted (Formula.not F) A = visit_counted (meets (at (Formula.not F) A)) _ (omega arith)
counted (Formula.and F G) A = visit_counted (meets (at (Formula.and F G) A)) _ (omega arith)
counted (Formula.step a F) A = visit_counted (meets (at (Formula.step a F) A)) _ (some_counted _)
