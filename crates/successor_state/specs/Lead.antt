-- The state that a step leads to, formed in the work bytes behind the one that it leaves ("Steps"; "Judging and its count").
use Rattle.std.specs.Prelude.{◌≡◌, Bool, false, List, ℕ, Option}
use Rattle.meaning.specs.Messages.Term.{Message}
use Rattle.meaning.specs.Steps.State.{State}
use Rattle.meaning.specs.Judging.Visits.{Arrival}
use Rattle.state_start.specs.Form.{Forms}
use Rattle.state_record.specs.declared.state.State as code
use Rattle.step_located.specs.Located.{LocatedOffer}
use Rattle.step_transition.specs.Focus.{Focus}
use Rattle.step_transition.specs.Moves.{Move, alone}
use Rattle.step_transition.specs.Outcome.{outcome, arrival_of}
use Rattle.step_transition.specs.Step.{actor}
use Rattle.step_transition.specs.WithinLimits.{WithinLimits}
use Rattle.step_transition.specs.Moving.{Moving, Leading}
use Rattle.successor_continuation.specs.Rests.{last_for}
use Rattle.step_label.specs.declared.step.Step as step
use Rattle.step_label.specs.declared.step.Actor.{Actor}
use Rattle.successor_threadless.specs.Threadless.{StandsFor}

-- Whatever state stands there, and whatever step of it this is: the state that it leads to.
pub record Leads (s : List ℕ) (st : code.State) (v : step.Step) (message m out : List ℕ) (r : Option code.State) (after : List ℕ) : Type 0 where
  pub exact : (S : State) (h : WithinLimits s out st S) (x : Message) (w : Move) → Moving s out st S h v x w message → Leading s st S m out
      → Forms s st.end (arrival_of S (outcome h.at.placed S.next x w)) r after

-- For those that look at its threads, or do not: a state is formed that will do for the one that is reached.
abbrev pub FormsFor : (stepless : Bool) (s : List ℕ) (begin : ℕ) → Arrival → Option code.State → (out : List ℕ) → Type 0
FormsFor stepless s begin A r out = (B : Arrival) × StandsFor stepless A B × Forms s begin B r out

pub record LeadsFor (stepless : Bool) (s : List ℕ) (st : code.State) (v : step.Step) (message m out : List ℕ) (r : Option code.State) (after : List ℕ) : Type 0 where
  pub exact : (S : State) (h : WithinLimits s out st S) (x : Message) (w : Move) → Moving s out st S h v x w message → Leading s st S m out
      → FormsFor stepless s st.end (arrival_of S (outcome h.at.placed S.next x w)) r after

-- The state with these names, if settling its rests meets no limit.
pub record LeadsAt (s : List ℕ) (st : code.State) (v : step.Step) (last next : ℕ) (message m out : List ℕ) (r : Option code.State) (after : List ℕ) : Type 0
  where
    pub exact : (S : State) (h : WithinLimits s out st S) (x : Message) (w : Move) → Moving s out st S h v x w message → Leading s st S m out
        → let o = outcome h.at.placed S.next x w in o.large ≡ false → last ≡ last_for w → next ≡ o.next
        → Forms s st.end (arrival_of S o) r after

-- Whatever step of one thread this is, which is the actor.
pub record LeadsOne (s : List ℕ) (st : code.State) (v : step.Step) (u : Actor) (message m out : List ℕ) (r : Option code.State) (after : List ℕ) : Type 0 where
  pub exact : (S : State) (h : WithinLimits s out st S) (x : Message) (p : Focus) (a : LocatedOffer) → Moving s out st S h v x (alone p a) message
      → u ≡ actor st.start p a → Leading s st S m out
      → Forms s st.end (arrival_of S (outcome h.at.placed S.next x (alone p a))) r after
