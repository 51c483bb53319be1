-- The state that an output or an input leads to: a thread that acts itself is replaced at once ("Steps"; "Judging and its count").
use Rattle.std.specs.Prelude.{Option}
use mathlib.Core.Path.{◌≡◌, sym, ap, ◌∙◌}
use mathlib.Core.Bool.{Bool, true}
use mathlib.Core.List.{List}
use Prim.Native.Nat.{ℕ}
use native.Mathlib.Omega.{arith}
use Rattle.meaning.specs.Messages.Term.{Message}
use Rattle.meaning.specs.Steps.State.{State}
use Rattle.state_record.specs.declared.state.State as code
use Rattle.state_start.specs.Form.{Forms}
use Rattle.step_located.specs.Located.{LocatedOffer}
use Rattle.step_transition.specs.Focus.{Focus}
use Rattle.step_transition.specs.Moves.{Move, alone, inside, between}
use Rattle.step_transition.specs.Outcome.{outcome, arrival_of}
use Rattle.step_transition.specs.Step.{actor, step_of}
use Rattle.step_transition.specs.WithinLimits.{WithinLimits}
use Rattle.step_transition.specs.Moving.{Leading, Moving}
use Rattle.step_label.specs.declared.step.Step as step
use Rattle.step_label.specs.declared.step.Actor.{Actor}
use Rattle.step_label.specs.declared.step.Label.{Label}
use Rattle.step_label.specs.declared.step.Label.TheVariants.{Output, Input, Silent}
use Rattle.successor_continuation.proofs.Laws.RestsSettled.{sender_alone, taker_alone}
use Rattle.successor_rebuild.specs.Tasks.{sends}
use Rattle.successor_prefix.specs.Alone.{LeadsAlone}
use Rattle.successor_state.specs.Lead.{Leads, LeadsOne}
use Rattle.successor_rebuild.specs.Kind.{ActsItself}
use Rattle.successor_prefix.proofs.Laws.AloneLead.{own_thread}

-- So a step of one thread leads there, whichever way it is formed.
module _ {s message m out after : List ℕ} {st : code.State} {v : step.Step} {u : Actor} {f : Option code.State} where
  pub one_alone : {c q : Bool} → ActsItself s u.at out c → c ≡ true → q ≡ sends v.label → LeadsAlone s st q u message m out f after
      → LeadsOne s st v u message m out f after
  one_alone acts so e leads = record {
    exact = λ S h x p a moving own leading.
        let t = own_thread h p a moving leading in
        leads.exact v S h x p a moving e own
        (acts.exact so p.thread (rw (sym (ap (λ w. w.at) own)) at t.recorded.stands)) leading;
  }

  pub one_named : Leads s st v message m out f after → LeadsOne s st v u message m out f after
  one_named leads = record { exact = λ S h x p a moving own leading. leads.exact S h x (alone p a) moving leading }

pub ruleset ones = (one_alone, one_named)

-- The steps of a label.
module _ {s message m out after : List ℕ} {st : code.State} {v : step.Step} {f : Option code.State} where
  leads_one : (label : Label) (who : step.Step → Actor) → ¬ (Silent ≡ label)
      → ((p : Focus) (a : LocatedOffer) → (step_of st.start (alone p a)).label ≡ label → who (step_of st.start (alone p a)) ≡ actor st.start p a)
      → v.label ≡ label → LeadsOne s st v (who v) message m out f after → Leads s st v message m out f after
  unfolding step_of
  leads_one label who loud acts e leads = record { exact = λ S h x w moving leading. of S h x w moving leading }
    where
      of : (S : State) (h : WithinLimits s out st S) (x : Message) (w : Move) → Moving s out st S h v x w message → Leading s st S m out
          → Forms s st.end (arrival_of S (outcome h.at.placed S.next x w)) f after
      of S h x (alone p a) moving leading =
          leads.exact S h x p a moving (ap who moving.same ∙ acts p a (sym (ap (λ (w : step.Step). w.label) moving.same) ∙ e)) leading
      of S h x (inside p j) moving leading = absurd (loud (sym (ap (λ (w : step.Step). w.label) moving.same) ∙ e))
      of S h x (between p q w) moving leading = absurd (loud (sym (ap (λ (w : step.Step). w.label) moving.same) ∙ e))

  pub leads_output : v.label ≡ Output → LeadsOne s st v v.sender message m out f after → Leads s st v message m out f after
  leads_output = leads_one Output (λ w. w.sender) (λ e. let z : ◌≡◌ {A = ℕ} 0 1 = cc in omega arith) (sender_alone st.start)

  pub leads_input : v.label ≡ Input → LeadsOne s st v v.taker message m out f after → Leads s st v message m out f after
  leads_input = leads_one Input (λ w. w.taker) (λ e. let z : ◌≡◌ {A = ℕ} 0 1 = cc in omega arith) (taker_alone st.start)

pub ruleset labels = (leads_output, leads_input)
