-- The enumeration lists each derivation of a step once and nothing else (demand 2, "Steps").
pub mod Places
pub mod Cuts
pub mod Copies
pub mod Offers
pub mod Silent
use mathlib.Core.Path.{refl, sym, ◌∙◌}
use Rattle.meaning.specs.Messages.Term.{Recipe}
use Rattle.meaning.specs.Messages.Equation.{Equal}
use Rattle.meaning.specs.Bytes.Process.{Prefix}
use Rattle.meaning.specs.Bytes.Formula.{Label}
use Rattle.meaning.specs.Steps.State.{written, State}
use Rattle.meaning.specs.Steps.Offer.{Offer, offer}
use Rattle.meaning.specs.Steps.Step.{after_output, after_input, after_silent, Step}
use Rattle.meaning.specs.Steps.Enumeration.{sent, taken, steps}
use Rattle.meaning.specs.Theorems.{StepsEnumerated}
use Places.{correspondence, some-any, Derived, by, derived, Lists, nothing, inverted, mapped, chained, if-equal}
use Offers.{offers-listed}
use Silent.{silents-listed}

module _ (S : State) where
  -- An offer that answers the label of an output or an input.
  abbrev Sends : Recipe → Offer → (State → Type 0) → Type 0
  Sends R (offer ρ (Prefix.output C M) P f m) G = Equal (written ρ C) (written S.aliases R) × G (after_output S ρ M P f m)
  Sends R (offer ρ (Prefix.input C) P f m) G = ⊥

  abbrev Takes : (R N : Recipe) → Offer → (State → Type 0) → Type 0
  Takes R N (offer ρ (Prefix.output C M) P f m) G = ⊥
  Takes R N (offer ρ (Prefix.input C) P f m) G = Equal (written ρ C) (written S.aliases R) × G (after_input S N ρ P f m)

  sent_listed : (R : Recipe) (o : Offer) → Lists (Sends R o) (sent S R o)
  unfolding sent
  sent_listed R (offer ρ (Prefix.output C M) P f m) = if-equal (written ρ C) (written S.aliases R) _
  sent_listed R (offer ρ (Prefix.input C) P f m) = nothing (λ G e. e)

  taken_listed : (R N : Recipe) (o : Offer) → Lists (Takes R N o) (taken S R N o)
  unfolding taken
  taken_listed R N (offer ρ (Prefix.output C M) P f m) = nothing (λ G e. e)
  taken_listed R N (offer ρ (Prefix.input C) P f m) = if-equal (written ρ C) (written S.aliases R) _

  -- A step is made from an offer that answers its label, or from a silent step of the threads.
  steps_listed : (a : Label) → Lists (Derived (Step S a)) (steps S a)
  unfolding steps
  steps_listed (Label.output R) =
      inverted (chained (offers-listed S.threads S.next) (λ o _. sent_listed R o))
      (λ G. elim [
        | by (offer ρ (Prefix.output C M) P f m) d e ↦ by _ (Step.output d e.0) e.1
        | by (offer ρ (Prefix.input C) P f m) d e ↦ absurd e
      ])
      (λ G. elim [ by _ (Step.output d e) g ↦ (by _ d (e, g), refl) ])
      (λ G. elim [ by (offer ρ (Prefix.output C M) P f m) d e ↦ refl | by (offer ρ (Prefix.input C) P f m) d e ↦ absurd e ])
  steps_listed (Label.input R N) =
      inverted (chained (offers-listed S.threads S.next) (λ o _. taken_listed R N o))
      (λ G. elim [
        | by (offer ρ (Prefix.output C M) P f m) d e ↦ absurd e
        | by (offer ρ (Prefix.input C) P f m) d e ↦ by _ (Step.input d e.0) e.1
      ])
      (λ G. elim [ by _ (Step.input d e) g ↦ (by _ d (e, g), refl) ])
      (λ G. elim [ by (offer ρ (Prefix.output C M) P f m) d e ↦ absurd e | by (offer ρ (Prefix.input C) P f m) d e ↦ refl ])
  steps_listed Label.silent =
      inverted (mapped (after_silent S) (silents-listed S.threads S.next))
      (λ G. elim [ by w d g ↦ by _ (Step.silent d) g ])
      (λ G. elim [ by _ (Step.silent d) g ↦ (by _ d g, refl) ]) (λ G. elim [ by w d g ↦ refl ])

pub steps_enumerated : StepsEnumerated
steps_enumerated S a P = correspondence (derived ∙ (steps_listed S a).places P ∙ sym (some-any P (steps S a)))
