-- Where no visit met a limit, the judged truth is the truth of the table ("Judging and its count").
pub mod Alike
pub mod Visits
use mathlib.Core.Path.{◌≡◌, refl, sym, ap, ap₂, ◌∙◌}
use mathlib.Core.Bool.{Bool, true, false, ◌&&◌, ◌||◌, true≢false}
use mathlib.Core.Bool
use mathlib.Core.List.{List, [], ◌∷◌, ◌++◌, map, flat_map, map-map, map-id, map-append}
use Rattle.meaning.specs.Messages.Term.{Recipe}
use Rattle.meaning.specs.Bytes.Formula.{Label, Formula, equal, not, and, step}
use Rattle.meaning.specs.Steps.State.{State}
use Rattle.meaning.specs.Steps.Offer.{Offer, offer}
use Rattle.meaning.specs.Steps.Silent.{Meeting, meeting}
use Rattle.meaning.specs.Steps.Step.{after_silent}
use Rattle.meaning.specs.Steps.Enumeration.{offers, silents, sent, taken, steps}
use Rattle.meaning.specs.Logic.Truth.{any_of, holds}
use Rattle.meaning.specs.Judging.Visits.{Arrival, arrived, sent_arrivals, taken_arrivals, met_arrival, arrivals, at, meets}
use Rattle.meaning.specs.Judging.{Judgement, visit, some_of, judge}
use Rattle.meaning.specs.Theorems.{ArrivalsAreSteps, JudgedTruth}
use Rattle.meaning.proofs.Test.{neither, none_passes}
use Rattle.meaning.proofs.Logic.Truth.{truth_evaluated}
use Rattle.meaning.proofs.Judging.Visits.{visits_counted}

-- Arrivals are the steps of the enumeration.
abbrev states : List Arrival → List State
states xs = map (λ a. a.state) xs

states_arrived : (large : Bool) (ss : List State) → states (map (arrived large) ss) ≡ ss
states_arrived large ss = map-map (λ a. a.state) (arrived large) ss ∙ map-id ss

states_flat_map : {A : Type 0} (f : A → List Arrival) (g : A → List State) → ((x : A) → states (f x) ≡ g x)
    → (xs : List A) → states (flat_map f xs) ≡ flat_map g xs
unfolding flat_map
states_flat_map f g h [] = refl
states_flat_map f g h (x ∷ xs) = map-append (λ a. a.state) (f x) (flat_map f xs) ∙ ap₂ (λ a b. a ++ b) (h x) (states_flat_map f g h xs)

sent_states : (S : State) (R : Recipe) (o : Offer) → states (sent_arrivals S R o) ≡ sent S R o
sent_states S R (offer ρ p P f m) = states_arrived _ _

taken_states : (S : State) (R N : Recipe) (o : Offer) → states (taken_arrivals S R N o) ≡ taken S R N o
taken_states S R N (offer ρ p P f m) = states_arrived _ _

met_states : (S : State) (ws : List Meeting) → states (map (met_arrival S) ws) ≡ map (after_silent S) ws
met_states S [] = refl
met_states S (meeting ρ M P σ Q f k ∷ ws) = ap (λ r. after_silent S (meeting ρ M P σ Q f k) ∷ r) (met_states S ws)

pub arrivals_are_steps : ArrivalsAreSteps
unfolding arrivals steps
arrivals_are_steps S (Label.output R) = states_flat_map (sent_arrivals S R) (sent S R) (sent_states S R) (offers S.next S.threads)
arrivals_are_steps S (Label.input R N) = states_flat_map (taken_arrivals S R N) (taken S R N) (taken_states S R N) (offers S.next S.threads)
arrivals_are_steps S Label.silent = met_states S (silents S.next S.threads)

-- A visit that met no limit went further.
went_on : (b : Bool) (further : Unit {0} → Judgement) → (visit b further).limited ≡ false → visit b further ≡ further tt
went_on true further h = absurd (true≢false h)
went_on false further h = refl

-- Judging a list of arrivals, from judging each.
some_holds : (F : Formula) → ((A : Arrival) → (judge F A).limited ≡ false → (judge F A).truth ≡ holds F A.state)
    → (xs : List Arrival) → (some_of (map (judge F) xs)).limited ≡ false
    → (some_of (map (judge F) xs)).truth ≡ any_of (holds F) (states xs)
unfolding some_of any_of
some_holds F each [] h = refl
some_holds F each (A ∷ xs) h =
    let n = neither (judge F A).limited (some_of (map (judge F) xs)).limited h in
    ap₂ (λ a b. a || b) (each A n.0) (some_holds F each xs n.1)

pub judged_holds : (F : Formula) (A : Arrival) → (judge F A).limited ≡ false → (judge F A).truth ≡ holds F A.state
unfolding judge holds
judged_holds (equal M N) A h = ap (λ j. j.truth) (went_on (meets (at (equal M N) A)) _ h)
judged_holds (not F) A h =
    let e = went_on (meets (at (not F) A)) _ h in
    ap (λ j. j.truth) e ∙ ap Bool.not (judged_holds F A (sym (ap (λ j. j.limited) e) ∙ h))
judged_holds (and F G) A h =
    let e = went_on (meets (at (and F G) A)) _ h in
    let n = neither (judge F A).limited (judge G A).limited (sym (ap (λ j. j.limited) e) ∙ h) in
    ap (λ j. j.truth) e ∙ ap₂ (λ a b. a && b) (judged_holds F A n.0) (judged_holds G A n.1)
judged_holds (step a F) A h =
    let e = went_on (meets (at (step a F) A)) _ h in
    ap (λ j. j.truth) e
    ∙ some_holds F (judged_holds F) (arrivals A.state a) (sym (ap (λ j. j.limited) e) ∙ h)
    ∙ ap (any_of (holds F)) (arrivals_are_steps A.state a)

pub judged_truth : JudgedTruth
judged_truth F A unlimited =
    let t = truth_evaluated F A.state in
    rw (judged_holds F A ((visits_counted F A).1 ∙ none_passes meets unlimited)) (t.1, t.0)
