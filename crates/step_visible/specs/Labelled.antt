-- The next output or input on the channel of a label ("Steps").
use Rattle.std.specs.Prelude.{◌≡◌, Bool, true, false, Option, Some, List, [], ◌∷◌, ◌++◌, ℕ, ◌+◌, ◌≤◌, length}
use Rattle.meaning.specs.Messages.Term.{Message}
use Rattle.meaning.specs.Bytes.Standing.{Stands}
use Rattle.message_bytes.specs.Encoding.{encode_message}
use Rattle.state_record.specs.Record.{Placed}
use Rattle.state_progress.specs.Represented.{encode_messages}
use Rattle.state_task.specs.declared.task.Quest.{Quest}
use Rattle.state_progress.specs.declared.progress.Progress.{Progress}
use Rattle.state_record.specs.declared.state.State.{State}
use Rattle.step_located.specs.Located.{LocatedOffer}
use Rattle.step_transition.specs.Focus.{Focus, record_at}
use Rattle.step_transition.specs.Moves.{Move, alone, labelled_moves}
use Rattle.step_transition.specs.Threads.{Threads}
use Rattle.state_layout.specs.Loaded.{IsRunOf}
use Rattle.step_transition.specs.Step.{Shown}
use Rattle.step_label.specs.declared.step.Step.{Step}
use Rattle.step_label.specs.declared.step.Label.TheVariants.{Output, Input}
use Rattle.index_process.specs.Index.{ShortModel}

-- Outputs, or inputs, on the channel of a label, at the position from or after it.
abbrev pub labelled_from : Bool → (from : ℕ) → Quest
labelled_from output from = record { output = output; any = false; from = from; excluded = 0 }

-- Those of the moves ws that come behind a cursor: all of them, or what comes after the move of the thread and of the mark.
pub data Upcoming (start at mark : ℕ) (ws : List Move) : List Move → Type 0 where
  all : at ≡ start → mark ≡ 0 → Upcoming start at mark ws ws
  behind : (before : List Move) (p : Focus) (a : LocatedOffer) {later : List Move} → ws ≡ before ++ (alone p a ∷ later) → at ≡ record_at start p
      → mark ≡ a.place + 1 → Upcoming start at mark ws later

-- Whatever threads a state has, the answer is the first of their outputs, or inputs, that come behind a cursor.
pub record NextVisible (output : Bool) (s channel : List ℕ) (st : State) (at from : ℕ) (m out message : List ℕ) (r : Option Step)
    (after : List ℕ) : Type 0 where
  pub exact : (ps : List Placed) (x : Message) (ws : List Move) → Threads s out st.start st.names ps st.end → IsRunOf channel x
      → ShortModel s → 10750 ≤ length m → st.end + 3964 ≤ length out → 510 ≤ length message → st.names ≤ 28664
      → Upcoming st.start at from (labelled_moves output x st.names ps) ws → Shown st.start after r ws

-- The same for a step, which is the cursor: of an output its sender, of an input its taker. For a silent step nothing is said.
pub record NextLabelled (s channel : List ℕ) (st : State) (step : Step) (m out message : List ℕ) (r : Option Step)
    (after : List ℕ) : Type 0 where
  pub output : step.label ≡ Output → NextVisible true s channel st step.sender.at step.sender.mark m out message r after
  pub input : step.label ≡ Input → NextVisible false s channel st step.taker.at step.taker.mark m out message r after

-- The step of an output that was found.
abbrev pub output_step : (at : ℕ) → Progress → (size : ℕ) → Step
output_step at now size = record {
  label = Output;
  arity = 0;
  copy = 0;
  sender = record { at = at; mark = now.mark; next = now.names };
  taker = record { at = at; mark = 0; next = 0 };
  size = size;
}

-- The step of an input that was found.
abbrev pub input_step : (at : ℕ) → Progress → Step
input_step at now = record {
  label = Input;
  arity = 0;
  copy = 0;
  sender = record { at = at; mark = 0; next = 0 };
  taker = record { at = at; mark = now.mark; next = now.names };
  size = 0;
}

-- The second of two messages that stand in the work bytes is handed over, as that of an output.
pub record HandsOver (out : List ℕ) (at : ℕ) (now : Progress) (message : List ℕ) (r : Option Step) (after : List ℕ) : Type 0 where
  pub exact : (x y : Message) → Stands out now.sent (encode_messages (x ∷ y ∷ [])) now.state.end
      → length (encode_message y) ≤ length message
      → (r ≡ Some (output_step at now (length (encode_message y)))) × Stands after 0 (encode_message y) (length (encode_message y))
