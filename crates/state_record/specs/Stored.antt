-- A thread of a state that stands in the work bytes, loaded ("Steps").
use Rattle.std.specs.Prelude.{◌≡◌, List, ℕ, ◌<◌, ◌≤◌, length}
use Rattle.meaning.specs.Bytes.Standing.{Stands}
use Rattle.message_term.specs.Bound.{encode_bound}
use Rattle.state_record.specs.Record.{Placed, bound_of, encode_record}
use Rattle.state_record.specs.declared.stored.Loaded.{Loaded}

-- The bytes stand at the front of m.
pub record Fetched (b m : List ℕ) : Type 0 where
  pub there : Stands m 0 b (length b)

-- Whatever thread has its record at the position, it is loaded: its messages stand at the front of m.
pub record Loads (out : List ℕ) (at : ℕ) (r : Loaded) (m : List ℕ) : Type 0 where
  pub exact : (t : Placed) {next : ℕ} → Stands out at (encode_record t) next → t.place < 65536
      → length (encode_bound (bound_of t.thread)) < 65536 → length (encode_bound (bound_of t.thread)) ≤ length m
      → (r.place ≡ t.place) × (r.next ≡ next) × Stands m 0 (encode_bound (bound_of t.thread)) r.end
