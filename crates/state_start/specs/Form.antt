-- The start state, and whatever state is reached, formed in the work bytes ("Steps"; "Judging and its count").
use Rattle.std.specs.Prelude.{◌≡◌, true, false, List, ℕ, ◌≤◌, ◌<◌, Option, Some, None}
use Rattle.meaning.specs.Bytes.Process.{Process}
use Rattle.meaning.specs.Judging.Visits.{Arrival, start_arrival}
use Rattle.state_record.specs.declared.state.State as code
use Rattle.state_layout.specs.Layout.{StateAt, over_arrival, ModelIn}
use Rattle.state_progress.specs.declared.progress.Progress.{Progress}

-- The answer is none exactly where the state that is reached is over a limit; otherwise that state stands in the work bytes from a position
-- on.
pub record Forms (s : List ℕ) (begin : ℕ) (A : Arrival) (r : Option code.State) (out : List ℕ) : Type 0 where
  pub none : over_arrival A ≡ true → r ≡ None
  pub some : over_arrival A ≡ false → (st : code.State) × (r ≡ Some st) × StateAt s out st A.state × (st.aliases ≡ begin)

-- The start state of whatever model stands there.
pub record Starts (s : List ℕ) (begin : ℕ) (r : Option code.State) (out : List ℕ) : Type 0 where
  pub exact : (P : Process) → ModelIn s P → Forms s begin (start_arrival P) r out

-- What a traversal has come to, as a state with the names that it has made, and as an answer.
abbrev pub state_of : Progress → code.State
state_of now = record {
  aliases = now.state.aliases;
  start = now.state.start;
  end = now.state.end;
  threads = now.state.threads;
  nodes = now.state.nodes;
  names = now.names;
}

pub record Finishes (now : Progress) (r : Option code.State) : Type 0 where
  pub over : now.going ≡ false → r ≡ None
  pub many : 128 < now.names → r ≡ None
  pub state : now.going ≡ true → now.names ≤ 128 → r ≡ Some (state_of now)
