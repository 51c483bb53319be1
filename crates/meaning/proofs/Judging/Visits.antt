-- Judging counts the visits and says whether one of them met a limit ("Judging and its count").
use mathlib.Core.Path.{◌≡◌, refl, sym, ap₂, ◌∙◌}
use mathlib.Core.Bool.{Bool, true, false, ◌||◌}
use mathlib.Core.List.{List, [], ◌∷◌, ◌++◌, map, flat_map}
use Prim.Native.Nat.{suc}
use native.Mathlib.Omega.{arith}
use lib.ListN.{length, length-append}
use Rattle.meaning.specs.Bytes.Formula.{Formula, equal, not, and, step}
use Rattle.meaning.specs.Logic.Truth.{any_of}
use Rattle.meaning.specs.Judging.Visits.{Arrival, arrivals, Visit, at, meets, visits}
use Rattle.meaning.specs.Judging.{Judgement, visit, negated, both, some_of, judge}
use Rattle.meaning.specs.Theorems.{VisitsCounted}
use Rattle.meaning.proofs.Test.{any_append}

-- A judgement that counts these visits, and one that counts one visit more.
abbrev Counts : Judgement → List Visit → Type 0
Counts j vs = (j.count ≡ length vs) × (j.limited ≡ any_of meets vs)

abbrev CountsOneMore : Judgement → List Visit → Type 0
CountsOneMore j vs = (j.count ≡ suc (length vs)) × (j.limited ≡ any_of meets vs)

-- A visit, and those further on where it meets no limit.
visited : (v : Visit) (b : Bool) → meets v ≡ b → (j : Judgement) (vs : List Visit) → CountsOneMore j vs
    → Counts (visit b (λ _. j)) (v ∷ (elim b [ true ↦ [] | false ↦ vs ]))
unfolding any_of
visited v true e j vs h = (refl, rw e)
visited v false e j vs h = (h.0, rw e h.1)

visited_last : (b t : Bool) → ((visit b (λ _. record { truth = t; count = 1; limited = false })).count ≡ 1)
    × ((visit b (λ _. record { truth = t; count = 1; limited = false })).limited ≡ (b || false))
visited_last true t = (refl, refl)
visited_last false t = (refl, refl)

counts_some : (F : Formula) → ((A : Arrival) → Counts (judge F A) (visits F A)) → (As : List Arrival)
    → CountsOneMore (some_of (map (judge F) As)) (flat_map (visits F) As)
unfolding some_of flat_map any_of
counts_some F each [] = (refl, refl)
counts_some F each (A ∷ As) =
    let h = each A in
    let g = counts_some F each As in (
      omega (arith, length-append (visits F A) (flat_map (visits F) As)),
      ap₂ (λ a b. a || b) h.1 g.1 ∙ sym (any_append meets (visits F A) (flat_map (visits F) As)),
    )

pub visits_counted : VisitsCounted
unfolding judge visits any_of
visits_counted (equal M N) A = visited_last (meets (at (equal M N) A)) _
visits_counted (not F) A =
    let h = visits_counted F A in
    visited (at (not F) A) (meets (at (not F) A)) refl (negated (judge F A)) (visits F A) (omega arith, h.1)
visits_counted (and F G) A =
    let h = visits_counted F A in
    let g = visits_counted G A in
    visited (at (and F G) A) (meets (at (and F G) A)) refl (both (judge F A) (judge G A)) (visits F A ++ visits G A) (
      omega (arith, length-append (visits F A) (visits G A)),
      ap₂ (λ a b. a || b) h.1 g.1 ∙ sym (any_append meets (visits F A) (visits G A)),
    )
visits_counted (step a F) A =
    visited (at (step a F) A) (meets (at (step a F) A)) refl (some_of (map (judge F) (arrivals A.state a)))
    (flat_map (visits F) (arrivals A.state a)) (counts_some F (visits_counted F) (arrivals A.state a))
