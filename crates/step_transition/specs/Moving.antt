-- A step of a state that stands in the work bytes, and room for the state that it leads to ("Steps").
use Rattle.std.specs.Prelude.{◌≡◌, List, ◌∷◌, ◌++◌, ℕ, ◌+◌, ◌-◌, ◌≤◌, ◌<◌, length}
use Rattle.meaning.specs.Messages.Term.{Message, nodes}
use Rattle.meaning.specs.Bytes.Process.{Prefix, output, input}
use Rattle.meaning.specs.Steps.State.{State, worked}
use Rattle.meaning.specs.Steps.Invariant.{Stored}
use Rattle.state_record.specs.declared.state.State as code
use Rattle.step_transition.specs.Moves.{Move, alone, inside, between}
use Rattle.step_transition.specs.Outcome.{sent_by}
use Rattle.state_layout.specs.Loaded.{IsRunOf}
use Rattle.step_transition.specs.WithinLimits.{WithinLimits}
use Rattle.step_transition.specs.Step.{step_of}
use Rattle.step_transition.specs.Behind.{moves_of}
use Rattle.step_label.specs.declared.step.Step as step
use Rattle.index_process.specs.Index.{ShortModel}

-- The message that goes: the one that is sent, or that of an input's label.
unfoldable pub carried : Message → Move → Message
carried x (alone p a) = of a.prefix
  where
    of : Prefix → Message
    of (output C M) = worked a.bound M
    of (input C) = x
carried x (inside p w) = sent_by w.pair
carried x (between p q w) = sent_by w

-- Room for the traversals of the state that is left, and for the state that is reached behind it.
pub record Leading (s : List ℕ) (st : code.State) (S : State) (m out : List ℕ) : Type 0 where
  pub short : ShortModel s
  pub wide : 10750 ≤ length m
  pub room : st.end + (st.start - st.aliases) + 4476 ≤ length out
  pub few : length S.aliases < 16384

-- The step is that of a move of the state; x is the message of an input's label.
pub record Moving (s out : List ℕ) (st : code.State) (S : State) (h : WithinLimits s out st S) (v : step.Step) (x : Message) (w : Move) (message : List ℕ)
    : Type 0 where
  pub channel : Message
  pub earlier : List Move
  pub others : List Move
  pub listed : moves_of v.label channel S.next h.at.placed ≡ earlier ++ (w ∷ others)
  pub same : v ≡ step_of st.start w
  pub stored : Stored S.next x
  pub small : nodes x ≤ 255
  pub labelled : IsRunOf message (carried x w)
