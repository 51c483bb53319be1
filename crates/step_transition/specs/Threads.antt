-- Threads of a state in the work bytes, none of which meets a limit ("Steps"; "Judging and its count").
use Rattle.std.specs.Prelude.{◌≡◌, false, List, ℕ, ◌≤◌}
use Rattle.meaning.specs.Bytes.Standing.{Stands}
use Rattle.meaning.specs.Places.{Every}
use Rattle.meaning.specs.Steps.Invariant.{ThreadStored}
use Rattle.meaning.specs.Judging.Limits.{bound_nodes, over_offers}
use Rattle.state_layout.specs.Loaded.{BoundSmall}
use Rattle.state_record.specs.Record.{Placed, bound_of, encode_records, Standing}

-- Whatever a thread offers meets no limit, copies being opened at k, its private names are below k, and its messages are small.
pub record Judged (k : ℕ) (t : Placed) : Type 0 where
  pub free : over_offers t.thread k ≡ false
  pub stored : ThreadStored k t.thread
  pub light : bound_nodes (bound_of t.thread) ≤ 1024
  pub small : BoundSmall (bound_of t.thread)

-- The records of the threads ps stand from a position to another.
pub record Threads (s out : List ℕ) (at k : ℕ) (ps : List Placed) (end : ℕ) : Type 0 where
  pub stands : Stands out at (encode_records ps) end
  pub standing : Every (Standing s) ps
  pub judged : Every (Judged k) ps
