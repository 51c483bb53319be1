-- How a state stands in the work bytes, and a model in its slice ("Steps"; "Judging and its count").
use Rattle.std.specs.Prelude.{◌≡◌, Bool, ◌||◌, List, ℕ, ◌+◌, ◌*◌, ◌≤◌, length}
use Rattle.meaning.specs.Bytes.Process.{Process}
use Rattle.meaning.specs.Bytes.Standing.{Stands}
use Rattle.meaning.specs.Places.{Every}
use Rattle.meaning.specs.Steps.State
use Rattle.meaning.specs.Judging.Limits.{bound_nodes, thread_nodes, over_state}
use Rattle.message_term.specs.Bound.{BoundTo}
use Rattle.state_record.specs.Place.{ProcessAt}
use Rattle.state_record.specs.Record.{Placed, encode_records, Standing}
use Rattle.state_head.specs.Settled.{threads_of}
use Rattle.state_record.specs.declared.state.State as code
use Rattle.meaning.specs.Judging.Visits.{Arrival}
use Rattle.index_process.specs.Index.{ShortModel}

-- Work bytes that reach behind a state, behind the two numbers of a record, and to where records end; with a model in its slice.
abbrev pub StateFits : (s out : List ℕ) → code.State → Type 0
StateFits s out st = ShortModel s × (st.end ≤ length out)

abbrev pub RecordFits : (s out : List ℕ) (at : ℕ) → Type 0
RecordFits s out at = (at + 4 ≤ length out) × ShortModel s

abbrev pub RecordsFit : (s out : List ℕ) (to : ℕ) → Type 0
RecordsFit s out to = ShortModel s × (to ≤ length out)

-- A state stands in the work bytes: the messages of its aliases, then a record for each thread, whose process stands in the model s.
pub record StateAt (s out : List ℕ) (st : code.State) (S : State.State) : Type 0 where
  pub aliases : BoundTo out st.aliases S.aliases st.start
  pub placed : List Placed
  pub threads : threads_of placed ≡ S.threads
  pub records : Stands out st.start (encode_records placed) st.end
  pub standing : Every (Standing s) placed
  pub many : st.threads ≡ length placed
  pub nodes : st.nodes ≡ thread_nodes S.threads + bound_nodes S.aliases
  pub names : st.names ≡ S.next
  pub size : st.end ≤ st.start + 28 * st.threads + 2 * st.nodes

-- Whether a state, as it is reached, is over a limit.
abbrev pub over_arrival : Arrival → Bool
over_arrival A = A.large || over_state A.state

-- A model stands in the slice, with its index.
pub record ModelIn (s : List ℕ) (P : Process) : Type 0 where
  pub next : ℕ
  pub process : ProcessAt s 0 64 0 P next
