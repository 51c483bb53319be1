-- The visits of judging, without short cuts ("Judging and its count"): the states that are reached, whether a visit meets a
-- limit, and the list of all visits, whose length is the count.
use Rattle.std.specs.Prelude.{ℕ, ◌≡◌, Bool, true, false, ◌||◌, length}
use mathlib.Core.List.{List, [], ◌∷◌, ◌++◌, map, flat_map}
use Rattle.meaning.specs.Messages.Term.{Recipe}
use Rattle.meaning.specs.Bytes.Process.{Process}
use Rattle.meaning.specs.Bytes.Formula.{Label, Formula}
use Rattle.meaning.specs.Places.{Every}
use Rattle.meaning.specs.Steps.State.{◌▸◌, worked, names, State, start}
use Rattle.meaning.specs.Steps.Offer.{Offer, offer}
use Rattle.meaning.specs.Steps.Silent.{Meeting, meeting}
use Rattle.meaning.specs.Steps.Step.{after_silent}
use Rattle.meaning.specs.Steps.Enumeration.{offers, silents, sent, taken}
use Rattle.meaning.specs.Judging.Limits.{over_settling, over_state, over_recipes}

-- A state as it is reached, and whether settling it met the limit of 255 nodes.
pub record Arrival : Type 0 where
  pub state : State
  pub large : Bool

abbrev pub arrived : Bool → State → Arrival
arrived large S = record { state = S; large = large }

abbrev pub start_arrival : Process → Arrival
start_arrival P = arrived (over_settling P [] 0) (start P)

-- The steps of the enumeration, as arrivals.
abbrev pub sent_arrivals : State → Recipe → Offer → List Arrival
sent_arrivals S R (offer ρ p P f m) = map (arrived (over_settling P ρ m)) (sent S R (offer ρ p P f m))

abbrev pub taken_arrivals : State → (R N : Recipe) → Offer → List Arrival
taken_arrivals S R N (offer ρ p P f m) =
    map (arrived (over_settling P (ρ ▸ worked S.aliases N) m)) (taken S R N (offer ρ p P f m))

abbrev pub met_arrival : State → Meeting → Arrival
met_arrival S (meeting ρ M P σ Q f k) =
    arrived (over_settling P ρ k || over_settling Q (σ ▸ worked ρ M) (names P ρ k)) (after_silent S (meeting ρ M P σ Q f k))

unfoldable pub arrivals : State → Label → List Arrival
arrivals S (Label.output R) = flat_map (sent_arrivals S R) (offers S.next S.threads)
arrivals S (Label.input R N) = flat_map (taken_arrivals S R N) (offers S.next S.threads)
arrivals S Label.silent = map (met_arrival S) (silents S.next S.threads)

-- A formula node at a state.
pub record Visit : Type 0 where
  pub formula : Formula
  pub arrival : Arrival

abbrev pub at : Formula → Arrival → Visit
at F A = record { formula = F; arrival = A }

-- Whether a visit meets a limit: of the state, or of its recipes.
unfoldable pub meets : Visit → Bool
meets v = v.arrival.large || over_state v.arrival.state || over_recipes v.arrival.state.aliases v.formula

-- The visits that judging makes: this one first, then, unless it meets a limit, those of the parts, and for a step formula
-- those at each state that its steps lead to.
unfoldable pub visits : Formula → Arrival → List Visit
visits (Formula.equal M N) A = at (Formula.equal M N) A ∷ []
visits (Formula.not F) A = at (Formula.not F) A ∷ (elim (meets (at (Formula.not F) A)) [ true ↦ [] | false ↦ visits F A ])
visits (Formula.and F G) A =
    at (Formula.and F G) A ∷ (elim (meets (at (Formula.and F G) A)) [ true ↦ [] | false ↦ visits F A ++ visits G A ])
visits (Formula.step a F) A =
    at (Formula.step a F) A
    ∷ (elim (meets (at (Formula.step a F) A)) [ true ↦ [] | false ↦ flat_map (visits F) (arrivals A.state a) ])

-- What is counted, and what must be free of limits, is the visits of both models together.
abbrev pub visits_both : Process → Process → Formula → List Visit
visits_both P Q F = visits F (start_arrival P) ++ visits F (start_arrival Q)

abbrev pub count_of : Process → Process → Formula → ℕ
count_of P Q F = length (visits_both P Q F)

abbrev pub MeetsNoLimit : Process → Process → Formula → Type 0
MeetsNoLimit P Q F = Every (λ v. meets v ≡ false) (visits_both P Q F)
