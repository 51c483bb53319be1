-- The threads of a state written into the next one: those that act as their tasks leave them, the others as they are ("Steps").
use Rattle.std.specs.Prelude.{◌≡◌, true, false, List, [], ◌∷◌, ℕ, ◌+◌, ◌-◌, ◌≤◌, eqb, length}
use Rattle.meaning.specs.Messages.Term.{Message}
use Rattle.state_record.specs.Record.{Placed, process_of, bound_of, encode_record}
use Rattle.state_progress.specs.TraversalResult.{Accumulated, TraversalResult, going, further, push}
use Rattle.state_head.specs.Traversal.{go}
use Rattle.state_progress.specs.Represented.{Represents, RepresentsResult}
use Rattle.state_head.specs.Traverse.{Meant}
use Rattle.state_task.specs.declared.task.Task.{Task}
use Rattle.state_progress.specs.declared.progress.Progress.{Progress}
use Rattle.step_transition.specs.Threads.{Threads}
use Rattle.state_layout.specs.Loaded.{IsRunOf, RecordAt, NamesSmall}
use Rattle.index_process.specs.Index.{ShortModel}

-- The traversal of a thread for a task.
abbrev pub go_over : Placed → Task → Message → Accumulated → TraversalResult
go_over t T x g = go (process_of t.thread) T x t.place (bound_of t.thread) g

-- One thread, whose record stands at a position: the task T is done at the position i, the task U at the position j.
unfoldable pub renewed : Message → (i : ℕ) → Task → (j : ℕ) → Task → (at : ℕ) → Placed → Accumulated → TraversalResult
renewed x i T j U at t g =
    elim (eqb at i) [ true ↦ go_over t T x g | false ↦ elim (eqb at j) [ true ↦ go_over t U x g | false ↦ push t.place t.thread g ] ]

-- All threads, whose records stand from a position on.
unfoldable pub rebuilt : Message → (i : ℕ) → Task → (j : ℕ) → Task → (at : ℕ) → List Placed → Accumulated → TraversalResult
rebuilt x i T j U at [] g = going g
rebuilt x i T j U at (t ∷ ts) g = further (renewed x i T j U at t g) (rebuilt x i T j U (at + length (encode_record t)) ts)

-- What both tasks ask for: a label, a model and bytes to work in, and private names that two bytes hold.
pub record Prepared (s argument m : List ℕ) (T U : Task) (x : Message) (n : ℕ) : Type 0 where
  pub labelled : IsRunOf argument x
  pub short : ShortModel s
  pub room : 10750 ≤ length m
  pub names : NamesSmall T n
  pub other_names : NamesSmall U n
  pub meant : Meant s T
  pub other_meant : Meant s U

-- A thread whose record stands at a position acts: at the position i, or else at the position j.
abbrev pub Acts : (i j at : ℕ) → Type 0
Acts i j at = (at ≡ i → ⊥) → at ≡ j

-- Whatever thread has its record there, below the state that is being written, the answer and the bytes show what is left of it if it acts.
pub record Renews (s argument : List ℕ) (at : ℕ) (m : List ℕ) (i : ℕ) (T : Task) (j : ℕ) (U : Task) (out : List ℕ) (now r : Progress)
    (after : List ℕ) : Type 0 where
  pub exact : Acts i j at → (t : Placed) (x : Message) (g : Accumulated) {next : ℕ} → RecordAt s out at t next → next ≤ now.state.end
      → Prepared s argument m T U x g.names → Represents s out now g → RepresentsResult s after r (renewed x i T j U at t g)

-- Whatever threads have their records there, the same of all of them. A traversal that goes no further is left as it is.
pub record Rebuilds (s argument : List ℕ) (at to : ℕ) (m : List ℕ) (i : ℕ) (T : Task) (j : ℕ) (U : Task) (out : List ℕ) (now r : Progress)
    (after : List ℕ) : Type 0 where
  pub stopped : now.going ≡ false → (r ≡ now) × (after ≡ out)
  pub exact : (ps : List Placed) (x : Message) (g : Accumulated) {k : ℕ} → Threads s out at k ps to → to ≤ now.state.end
      → Prepared s argument m T U x g.names → Represents s out now g → RepresentsResult s after r (rebuilt x i T j U at ps g)

-- The same where the first of them acts, if a record stands there.
pub record Resumes (s argument : List ℕ) (at to : ℕ) (m : List ℕ) (i : ℕ) (T : Task) (j : ℕ) (U : Task) (out : List ℕ) (now r : Progress)
    (after : List ℕ) : Type 0 where
  pub stopped : now.going ≡ false → (r ≡ now) × (after ≡ out)
  pub located_offers : (4 ≤ to - at → Acts i j at) → Rebuilds s argument at to m i T j U out now r after
