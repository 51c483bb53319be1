-- The threads of a state that do not act, whose records are kept as one block ("Steps").
use Rattle.std.specs.Prelude.{◌≡◌, Bool, true, false, List, ◌++◌, ℕ, ◌+◌, ◌-◌, ◌≤◌, length}
use Rattle.meaning.specs.Messages.Term.{Message}
use Rattle.meaning.specs.Bytes.Standing.{Stands}
use Rattle.meaning.specs.Judging.Limits.{thread_nodes}
use Rattle.meaning.specs.Places.{Every}
use Rattle.state_record.specs.Record.{Placed, encode_records, Standing}
use Rattle.state_progress.specs.TraversalResult.{Accumulated, further}
use Rattle.state_progress.specs.Represented.{Represents, RepresentsResult}
use Rattle.state_head.specs.Settled.{threads_of}
use Rattle.state_task.specs.declared.task.Task.{Task}
use Rattle.state_progress.specs.declared.progress.Progress.{Progress}
use Rattle.state_record.specs.declared.state.State.{State}
use Rattle.step_located.specs.Rebuilt.{push_all}
use Rattle.step_transition.specs.Threads.{Threads}
use Rattle.successor_rebuild.specs.Rebuild.{rebuilt, Acts}
use Rattle.successor_rebuild.specs.declared.block.Block.{Block}

-- The block at a position has the records of the threads ts.
pub record BlockOf (out : List ℕ) (at : ℕ) (ts : List Placed) (b : Block) : Type 0 where
  pub stands : Stands out at (encode_records ts) b.end
  pub threads : b.threads ≡ length ts
  pub nodes : b.nodes ≡ thread_nodes (threads_of ts)

-- Of the threads ps the first ones have their records in the block, and these are written as they are where the threads at the positions i
-- and j act.
pub record Parted (s out : List ℕ) (at to i j k : ℕ) (ps : List Placed) (b : Block) : Type 0 where
  pub front : List Placed
  pub others : List Placed
  pub whole : ps ≡ front ++ others
  pub block : BlockOf out at front b
  pub behind : Threads s out b.end k others to
  pub same : (x : Message) (T U : Task) (g : Accumulated) → rebuilt x i T j U at ps g ≡ further (push_all front g) (rebuilt x i T j U b.end others)

-- Whatever threads have their records from the position at to the position to, the first ones do not act, and the block has them.
pub record Still (out : List ℕ) (at to i j : ℕ) (b : Block) : Type 0 where
  pub exact : (s : List ℕ) (ps : List Placed) {k : ℕ} → Threads s out at k ps to → Parted s out at to i j k ps b

-- Where it ends, the next thread acts, if there is one and the block is within the limit of nodes.
pub record Halts (out : List ℕ) (to i j : ℕ) (b : Block) : Type 0 where
  pub acts : (s : List ℕ) (ps : List Placed) {k : ℕ} → Threads s out b.end k ps to → 4 ≤ to - b.end → b.nodes ≤ 1024 → Acts i j b.end

-- There is room for a block, below the state that is being written, within its limits and in work bytes of a length.
pub record RoomForBlock (st : State) (b : Block) (at long : ℕ) : Type 0 where
  pub threads : st.threads + b.threads ≤ 32
  pub nodes : st.nodes + b.nodes ≤ 1024
  pub below : b.end ≤ st.end
  pub bytes : st.end + (b.end - at) ≤ long

pub record HasRoom (st : State) (b : Block) (at long : ℕ) (r : Bool) : Type 0 where
  pub room : r ≡ true → RoomForBlock st b at long
  pub none : r ≡ false → RoomForBlock st b at long → ⊥

-- Whatever threads have their records in the block, below those of the state that is being written, they are written there too.
pub record Keeps (out : List ℕ) (at : ℕ) (b : Block) (now r : Progress) (after : List ℕ) : Type 0 where
  pub light : r.going ≡ true → b.nodes ≤ 1024
  pub exact : (s : List ℕ) (ts : List Placed) (g : Accumulated) → BlockOf out at ts b → b.end ≤ now.state.end → Every (Standing s) ts
      → Represents s out now g → RepresentsResult s after r (push_all ts g)

-- The same of a traversal that may go no further: it is left as it is.
pub record KeepsOn (out : List ℕ) (at : ℕ) (b : Block) (now r : Progress) (after : List ℕ) : Type 0 where
  pub stopped : now.going ≡ false → (r ≡ now) × (after ≡ out)
  pub exact : (s : List ℕ) (ts : List Placed) (g : Accumulated) → BlockOf out at ts b → b.end ≤ now.state.end → Every (Standing s) ts
      → Represents s out now g → RepresentsResult s after r (push_all ts g)
