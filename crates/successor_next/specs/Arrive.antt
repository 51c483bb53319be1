-- The step after one, and the state that it leads to, formed behind the one that it leaves ("Steps"; "Judging and its count").
use Rattle.std.specs.Prelude.{◌≡◌, Bool, List, [], ◌∷◌, ◌++◌, ℕ, ◌≤◌, length, Option, Some, None}
use Rattle.meaning.specs.Bytes.Standing.{Stands}
use Rattle.meaning.specs.Messages.Term.{Message, nodes}
use Rattle.meaning.specs.Steps.State.{State}
use Rattle.meaning.specs.Steps.Invariant.{Stored}
use Rattle.state_record.specs.Record.{Placed}
use Rattle.state_record.specs.declared.state.State as code
use Rattle.state_layout.specs.Loaded.{IsRunOf}
use Rattle.step_transition.specs.Moves.{Move}
use Rattle.step_transition.specs.Outcome.{outcome, arrival_of}
use Rattle.step_transition.specs.WithinLimits.{WithinLimits}
use Rattle.step_transition.specs.Step.{step_of, run_of}
use Rattle.step_transition.specs.Behind.{moves_of}
use Rattle.step_transition.specs.Moving.{Leading}
use Rattle.step_label.specs.declared.step.Step as step
use Rattle.step_label.specs.declared.step.Label.{Label}
use Rattle.step_label.specs.declared.step.Label.TheVariants.{Input}
use Rattle.step_between.specs.Buffered.{Buffered, Resuming}
use Rattle.successor_state.specs.Lead.{FormsFor}
use Rattle.successor_next.specs.declared.arrive.Arrived.{Arrived}

-- The message of an input's label; for other labels any message that a state may hold.
pub record Taken (S : State) (taken : List ℕ) (l : Label) (y : Message) : Type 0 where
  pub labelled : l ≡ Input → IsRunOf taken y
  pub stored : Stored S.next y
  pub small : nodes y ≤ 255

-- A step is that of a move of the state; what it sends stands at the front of a slice, and the message of an input's label is another.
pub record Leaving (s out : List ℕ) (st : code.State) (S : State) (h : WithinLimits s out st S) (v : step.Step) (taken message : List ℕ) (y : Message) (w : Move)
    : Type 0 where
  pub channel : Message
  pub earlier : List Move
  pub others : List Move
  pub listed : moves_of v.label channel S.next h.at.placed ≡ earlier ++ (w ∷ others)
  pub same : v ≡ step_of st.start w
  pub taking : Taken S taken v.label y
  pub sent : Stands message 0 (run_of w) (length (run_of w))

-- Whatever state stands there, and whatever step of it this is: the state that it leads to.
pub record Leaves (stepless : Bool) (s taken message : List ℕ) (st : code.State) (v : step.Step) (m out : List ℕ) (r : Option code.State) (after : List ℕ) : Type 0 where
  pub exact : (S : State) (h : WithinLimits s out st S) (y : Message) (w : Move) → Leaving s out st S h v taken message y w → Leading s st S m out
      → FormsFor stepless s st.end (arrival_of S (outcome h.at.placed S.next y w)) r after

-- The same for a step that is no input.
pub record LeavesBySending (stepless : Bool) (s message : List ℕ) (st : code.State) (v : step.Step) (m out : List ℕ) (r : Option code.State) (after : List ℕ) : Type 0 where
  pub exact : (v.label ≡ Input → ⊥) → (taken : List ℕ) → Leaves stepless s taken message st v m out r after

-- A step that was found, and the state that it leads to.
abbrev pub arrived : step.Step → Option code.State → Option Arrived
arrived v f = Some (record { step = v; formed = f })

-- The answer is the first of these moves, with what it sends and on what, and the state that it leads to; or none.
abbrev pub ArrivedAt : (stepless : Bool) (s : List ℕ) (st : code.State) (S : State) (ps : List Placed) (y : Message) → Option Arrived → (after on said : List ℕ) → List Move → Type 0
ArrivedAt stepless s st S ps y r after on said [] = r ≡ None
ArrivedAt stepless s st S ps y r after on said (w ∷ others) =
    (f : Option code.State) × (r ≡ arrived (step_of st.start w) f) × FormsFor stepless s st.end (arrival_of S (outcome ps S.next y w)) f after × Buffered on said w

pub record Arrives (stepless : Bool) (s channel taken : List ℕ) (st : code.State) (from : step.Step) (m out buffered message : List ℕ) (r : Option Arrived)
    (after on said : List ℕ) : Type 0 where
  pub exact : (S : State) (x y : Message) (h : WithinLimits s out st S) → IsRunOf channel x → Taken S taken from.label y → Leading s st S m out
      → 510 ≤ length buffered → 510 ≤ length message → {others : List Move}
      → Resuming from.label st.start (moves_of from.label x S.next h.at.placed) buffered message from others
      → ArrivedAt stepless s st S h.at.placed y r after on said others
