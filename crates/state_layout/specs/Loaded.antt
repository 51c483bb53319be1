-- A traversal of a thread of a state in the work bytes ("Steps").
use Rattle.std.specs.Prelude.{◌≡◌, List, [], ◌∷◌, ℕ, ◌≤◌, length}
use Rattle.meaning.specs.Messages.Term.{Message, nodes}
use Rattle.meaning.specs.Messages.Equation.{Normal}
use Rattle.meaning.specs.Bytes.Standing.{Stands}
use Rattle.meaning.specs.Places.{Every}
use Rattle.meaning.specs.Steps.State.{Bound}
use Rattle.meaning.specs.Judging.Limits.{bound_nodes}
use Rattle.message_bytes.specs.Encoding.{encode_message}
use Rattle.state_record.specs.Record.{Placed, process_of, bound_of, encode_record, Standing}
use Rattle.state_progress.specs.TraversalResult.{Accumulated}
use Rattle.state_head.specs.Traversal.{go}
use Rattle.state_progress.specs.Represented.{Represents, RepresentsResult}
use Rattle.state_head.specs.Traverse.{numbers_of, Meant}
use Rattle.state_task.specs.declared.task.Task.{Task}
use Rattle.state_progress.specs.declared.progress.Progress.{Progress}
use Rattle.index_process.specs.Index.{ShortModel}

-- Bound messages of at most 255 nodes each.
abbrev pub BoundSmall : Bound → Type 0
BoundSmall ρ = Every (λ x. nodes x ≤ 255) ρ

-- Nothing has been written yet.
abbrev pub nothing_yet : ℕ → Accumulated
nothing_yet n = record { names = n; nodes = 0; threads = [] }

-- The argument of a task is the run of a message.
pub record IsRunOf (argument : List ℕ) (x : Message) : Type 0 where
  pub same : argument ≡ encode_message x
  pub small : length argument ≤ 510
  pub normal : Normal x

-- A thread whose record stands at a position, in a state within its limits.
pub record RecordAt (s out : List ℕ) (at : ℕ) (t : Placed) (next : ℕ) : Type 0 where
  pub stands : Stands out at (encode_record t) next
  pub standing : Standing s t
  pub light : bound_nodes (bound_of t.thread) ≤ 1024
  pub small : BoundSmall (bound_of t.thread)

-- Two bytes hold the private names of a task, with those of the whole model after them.
abbrev pub NamesSmall : Task → ℕ → Type 0
NamesSmall T n = Every (λ k. k ≤ 28664) (n ∷ numbers_of T)

-- Whatever thread has its record there, the answer and the bytes show the course of the traversal of it.
pub record TraversesThread (s argument : List ℕ) (at : ℕ) (m : List ℕ) (T : Task) (out : List ℕ) (now r : Progress) (after : List ℕ) : Type 0 where
  pub exact : (t : Placed) (x : Message) (g : Accumulated) {next : ℕ} → RecordAt s out at t next → IsRunOf argument x → ShortModel s
      → 10750 ≤ length m → NamesSmall T g.names → Meant s T → Represents s out now g
      → RepresentsResult s after r (go (process_of t.thread) T x t.place (bound_of t.thread) g)
