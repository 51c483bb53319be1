-- The traversal of a process, for each task. The traversal of the code equals this one. What it has to do with settling and limits is proved in
-- proofs/Laws (Counting, Settling), and with steps in the crate `step_located`.
use Rattle.std.specs.Prelude.{ℕ, suc, ◌+◌, true, false, ◌||◌, eqb}
use Rattle.meaning.specs.Messages.Term.{leaf, private, Message}
use Rattle.meaning.specs.Messages.Normal.{equal}
use Rattle.meaning.specs.Bytes.Process.{Prefix, Process}
use Rattle.meaning.specs.Steps.State.{Bound, ◌▸◌, written, worked, act}
use Rattle.meaning.specs.Judging.Limits.{over}
use Rattle.state_record.specs.Place.{then_at, else_at, body_at, right_at, rest_at}
use Rattle.state_progress.specs.TraversalResult.{Accumulated, TraversalResult, going, further, unless, named, returned, push}
use Rattle.state_task.specs.declared.task.Task.{Task}
use Rattle.state_task.specs.declared.task.Task.TheVariants.{Count, Judge, Settle, Seek, SeekIn, Find, Build, BuildIn}
use Rattle.state_task.specs.declared.task.Plan.{Plan}
use Rattle.state_task.specs.Machine.{offered, sought, at_repl}

-- A thread is written; or, if it acts, what follows it is settled in its place, the taker's under the message too.
unfoldable pub built : Plan → Message → (at : ℕ) → Bound → Prefix → Process → (Bound → Accumulated → TraversalResult) → Accumulated → TraversalResult
built b x at ρ p P rest g =
    elim (eqb (at + 1) b.sender) [
      | true ↦ returned g.names (rest ρ (named b.rest g))
      | false ↦ elim (eqb (at + 1) b.taker) [
        | true ↦ returned g.names (rest (ρ ▸ x) (named b.last g))
        | false ↦ push at (act ρ p P) g
      ]
    ]

-- What is done at a thread that acts by itself.
unfoldable pub at_prefix : Task → Message → (at : ℕ) → Bound → Prefix → Process → (Bound → Accumulated → TraversalResult) → Accumulated → TraversalResult
at_prefix Count x at ρ p P rest g = going g
at_prefix (Judge k) x at ρ p P rest g = offered ρ p P g
at_prefix Settle x at ρ p P rest g = further (push at (act ρ p P) g) (offered ρ p P)
at_prefix (Seek q k) x at ρ p P rest g = sought q k x at ρ p g
at_prefix (SeekIn q c k) x at ρ p P rest g = going g
at_prefix (Find f past k) x at ρ p P rest g = going g
at_prefix (Build b k) x at ρ p P rest g = built b x at ρ p P rest g
at_prefix (BuildIn b c k) x at ρ p P rest g = push at (act ρ p P) g

-- The traversal of a process that stands at a position, for a task and the message of a label.
unfoldable pub go : Process → Task → Message → (at : ℕ) → Bound → Accumulated → TraversalResult
go Process.nil T x at ρ g = going g
go (Process.new P) T x at ρ g = go P T x (at + 1) (ρ ▸ leaf (private g.names)) (named (suc g.names) g)
go (Process.act p P) T x at ρ g = at_prefix T x at ρ p P (λ σ. go P Settle x (rest_at at p) σ) g
go (Process.if M N P Q) T x at ρ g =
    unless (over ρ M || over ρ N)
    (elim (equal (written ρ M) (written ρ N)) [ true ↦ go P T x (then_at at M N) ρ g | false ↦ go Q T x (else_at at M N P) ρ g ])
go (Process.let_in M P) T x at ρ g = unless (over ρ M) (go P T x (body_at at M) (ρ ▸ worked ρ M) g)
go (Process.par P Q) T x at ρ g = further (go P T x (at + 1) ρ g) (go Q T x (right_at at P) ρ)
go (Process.repl P) T x at ρ g = at_repl T at ρ P (λ U. go P U x (at + 1) ρ) g
