-- The steps of a label, those that come behind one of them, and room to search for them ("Steps").
use Rattle.std.specs.Prelude.{◌≡◌, true, false, List, ◌∷◌, ◌++◌, ℕ, ◌+◌, ◌≤◌, length}
use Rattle.meaning.specs.Messages.Term.{Message}
use Rattle.state_record.specs.Record.{Placed}
use Rattle.state_record.specs.declared.state.State as code
use Rattle.step_transition.specs.Moves.{Move, labelled_moves, silent_moves}
use Rattle.step_transition.specs.Step.{step_of}
use Rattle.step_label.specs.declared.step.Step as step
use Rattle.step_label.specs.declared.step.Label.{Label}
use Rattle.step_label.specs.declared.step.Label.TheVariants.{Output, Input, Silent}
use Rattle.step_label.specs.declared.step.Actor.{Actor}
use Rattle.index_process.specs.Index.{ShortModel}

-- The steps of a label, x being the message of its channel.
abbrev pub moves_of : Label → Message → (k : ℕ) → List Placed → List Move
moves_of Output x k ps = labelled_moves true x k ps
moves_of Input x k ps = labelled_moves false x k ps
moves_of Silent x k ps = silent_moves k ps

-- Where the search for the steps of a label begins: before the first one.
abbrev pub arity_before : Label → ℕ
arity_before Output = 0
arity_before Input = 0
arity_before Silent = 2

abbrev pub nobody_at : ℕ → Actor
nobody_at start = record { at = start; mark = 0; next = 0 }

abbrev pub before : Label → (start : ℕ) → step.Step
before l start =
    record { label = l; arity = arity_before l; copy = 0; sender = nobody_at start; taker = nobody_at start; size = 0 }

-- The moves that come behind a step: all of them, or those after its own.
pub data Behind (l : Label) (start : ℕ) (ws : List Move) : step.Step → List Move → Type 0 where
  all : Behind l start ws (before l start) ws
  later : (earlier : List Move) (w : Move) {others : List Move} → ws ≡ earlier ++ (w ∷ others) → Behind l start ws (step_of start w) others

-- Room for the traversals of a search, and for the message of what is found.
pub record Searching (s : List ℕ) (st : code.State) (m out message : List ℕ) : Type 0 where
  pub short : ShortModel s
  pub wide : 10750 ≤ length m
  pub room : st.end + 3964 ≤ length out
  pub long : 510 ≤ length message
