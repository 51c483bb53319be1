-- Whether a state has room for one thread more ("Judging and its count": 32 threads, 1,024 nodes).
use Rattle.std.specs.Prelude.{◌≡◌, Option, Some, None, ℕ, ◌+◌, ◌≤◌, ◌<◌}
use Rattle.state_record.specs.declared.state.State.{State}

-- A state without threads and names.
abbrev pub fresh_state : (aliases start nodes : ℕ) → State
fresh_state aliases start nodes =
    record { aliases = aliases; start = start; end = start; threads = 0; nodes = nodes; names = 0 }

-- There is room for a thread, and for its record in work bytes of a length: the messages of one thread take 2,072 bytes at most.
pub record RoomForThread (st : State) (nodes size long : ℕ) : Type 0 where
  pub threads : st.threads < 32
  pub total : st.nodes + nodes ≤ 1024
  pub short : size ≤ 2072
  pub bytes : st.end + 4 + size ≤ long

-- The state with that thread, the record being written at its end; or none.
pub record Grows (st : State) (nodes size long : ℕ) (r : Option State) : Type 0 where
  pub room : (f : State) → r ≡ Some f → RoomForThread st nodes size long
  pub state : (f : State) → r ≡ Some f
      → f ≡ record {
        aliases = st.aliases;
        start = st.start;
        end = st.end + 4 + size;
        threads = st.threads + 1;
        nodes = st.nodes + nodes;
        names = st.names;
      }
  pub none : r ≡ None → RoomForThread st nodes size long → ⊥
