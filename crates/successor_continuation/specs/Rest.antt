-- What follows a thread of a state in the work bytes, settled ("Steps").
use Rattle.std.specs.Prelude.{List, ℕ, ◌≤◌, length}
use Rattle.meaning.specs.Messages.Term.{Message, Term}
use Rattle.meaning.specs.Bytes.Process.{Prefix, output, input, Process}
use Rattle.meaning.specs.Bytes.Encoding.{encode_process}
use Rattle.meaning.specs.Bytes.Standing.{Stands}
use Rattle.meaning.specs.Steps.State.{Bound, ◌▸◌, Thread, act, repl}
use Rattle.state_record.specs.Place.{rest_at, body_at}
use Rattle.state_record.specs.Record.{Placed}
use Rattle.state_progress.specs.TraversalResult.{Accumulated, TraversalResult, over_limit}
use Rattle.state_progress.specs.Represented.{Represents, RepresentsResult}
use Rattle.state_task.specs.declared.task.Task.TheVariants.{Settle}
use Rattle.state_head.specs.Traversal.{go}
use Rattle.state_head.specs.Traverse.{Ready}
use Rattle.state_progress.specs.declared.progress.Progress.{Progress}
use Rattle.state_layout.specs.Loaded.{IsRunOf, RecordAt}
use Rattle.index_process.specs.Index.{ShortModel}

-- The messages that what follows is settled under, if x is the message that is taken.
abbrev pub bound_behind : Prefix → Bound → Message → Bound
bound_behind (output C M) ρ x = ρ
bound_behind (input C) ρ x = ρ ▸ x

-- What follows a thread whose process stands at a position, settled; a repl thread is followed by nothing.
abbrev pub settled_behind : Thread → (at : ℕ) → Message → Accumulated → TraversalResult
settled_behind (act ρ p P) at x g = go P Settle x (rest_at at p) (bound_behind p ρ x) g
settled_behind (repl ρ P) at x g = over_limit

-- Whatever follows the process at a position, under the messages that are bound: the answer and the bytes show how it is settled.
pub record SettlesBehind (s argument : List ℕ) (at : ℕ) (m : List ℕ) (end : ℕ) (out : List ℕ) (now r : Progress) (after : List ℕ) : Type 0 where
  pub exact : (p : Prefix) (P : Process) (x : Message) (ρ : Bound) (g : Accumulated) {next : ℕ} → Stands s at (encode_process (Process.act p P)) next
      → Ready s argument (rest_at at p) 63 m end Settle P x ρ g → Represents s out now g
      → RepresentsResult s after r (go P Settle x (rest_at at p) ρ g)

-- The same behind an input, under the message of the label too.
pub record TakesBehind (s argument : List ℕ) (at : ℕ) (m : List ℕ) (end : ℕ) (out : List ℕ) (now r : Progress) (after : List ℕ) : Type 0 where
  pub exact : (C : Term) (P : Process) (x : Message) (ρ : Bound) (g : Accumulated)
      → Ready s argument at 64 m end Settle (Process.act (input C) P) x ρ g → Represents s out now g
      → RepresentsResult s after r (go P Settle x (body_at at C) (ρ ▸ x) g)

-- Behind whatever output or input stands there, under the message of the label too if it is an input.
pub record SettlesRest (s argument : List ℕ) (at : ℕ) (m : List ℕ) (end : ℕ) (out : List ℕ) (now r : Progress) (after : List ℕ) : Type 0 where
  pub exact : (p : Prefix) (P : Process) (x : Message) (ρ : Bound) (g : Accumulated)
      → Ready s argument at 64 m end Settle (Process.act p P) x ρ g → Represents s out now g
      → RepresentsResult s after r (go P Settle x (rest_at at p) (bound_behind p ρ x) g)

-- Whatever thread has its record there, the same of what follows it.
pub record Rests (s argument : List ℕ) (at : ℕ) (m out : List ℕ) (now r : Progress) (after : List ℕ) : Type 0 where
  pub exact : (t : Placed) (x : Message) (g : Accumulated) {next : ℕ} → RecordAt s out at t next → IsRunOf argument x → ShortModel s
      → 10750 ≤ length m → g.names ≤ 28664 → Represents s out now g → RepresentsResult s after r (settled_behind t.thread t.place x g)
