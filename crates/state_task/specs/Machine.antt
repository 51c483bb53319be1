-- What a traversal does at a thread that acts by itself, and at a repl thread, for each task ("Steps"; "Judging and its count").
use Rattle.std.specs.Prelude.{ℕ, ◌+◌, Bool, true, false, not, ◌&&◌, ◌||◌, [], ◌∷◌, ltb, eqb, length}
use Rattle.meaning.specs.Messages.Term.{Message}
use Rattle.meaning.specs.Messages.Normal.{same}
use Rattle.meaning.specs.Bytes.Process.{Prefix, output, input, Process}
use Rattle.meaning.specs.Bytes.Encoding.{encode_process}
use Rattle.meaning.specs.Steps.State.{Bound, worked, repl}
use Rattle.meaning.specs.Judging.Limits.{over, over_prefix}
use Rattle.state_progress.specs.TraversalResult.{Accumulated, TraversalResult, going, found, further, unless, named, returned, push}
use Rattle.state_task.specs.declared.task.Task.{Task}
use Rattle.state_task.specs.declared.task.Task.TheVariants.{Count, Judge, Settle, Seek, SeekIn, Find, Build, BuildIn}
use Rattle.state_task.specs.declared.task.Quest.{Quest}
use Rattle.state_task.specs.declared.task.CopyAt.{CopyAt}
use Rattle.state_task.specs.declared.task.Plan.{Plan}

-- The mark is one of the process P, which stands at a position.
unfoldable pub contains : (mark at : ℕ) → Process → Bool
contains mark at P = ltb at mark && not (ltb (at + length (encode_process P)) mark)

-- The task inside a copy whose names are counted: copies inside it open at n.
unfoldable pub opening : Task → ℕ → Task
opening Count n = Count
opening (Judge k) n = Judge n
opening Settle n = Settle
opening (Seek q k) n = Seek q n
opening (SeekIn q c k) n = SeekIn q c n
opening (Find f past k) n = Find f past n
opening (Build b k) n = Build b n
opening (BuildIn b c k) n = BuildIn b c n

abbrev pub sending : Plan → Plan
sending b = record { sender = b.sender; taker = 0; second = b.second; rest = b.rest; last = b.last }

abbrev pub taking : Plan → Plan
taking b = record { sender = 0; taker = b.taker; second = b.second; rest = b.rest; last = b.last }

-- A copy is opened at the private name n: its names are counted, and then the task is done in it. The names that it took are given back.
unfoldable pub opened : (Task → Accumulated → TraversalResult) → Task → ℕ → Accumulated → TraversalResult
opened copy T n g = further (copy Count (named n g)) (λ h. returned g.names (copy (opening T h.names) (named n g)))

-- Channel and message of a thread's own offer are judged.
unfoldable pub offered : Bound → Prefix → Process → Accumulated → TraversalResult
offered ρ p P g = unless (over_prefix ρ p P g.names) (going g)

-- Whether an output (kind 2) or an input at a position is one that is looked for, but for its channel.
unfoldable pub eligible : Quest → (at kind : ℕ) → Bool
eligible q at kind =
    not (ltb at q.from) && not (eqb (at + 1) q.excluded) && (elim (eqb kind 2) [ true ↦ q.output | false ↦ not q.output ])

-- A thread's own offer is looked at: whether it is an output or an input, and where it stands; then its channel. The messages of an output
-- are handed over.
unfoldable pub sought : Quest → ℕ → Message → (at : ℕ) → Bound → Prefix → Accumulated → TraversalResult
sought q k x at ρ (output C M) g =
    elim (q.output && not (ltb at q.from) && not (eqb (at + 1) q.excluded)) [
      | true ↦ unless (over ρ C) (elim (q.any || same (worked ρ C) x) [
        | true ↦ unless (over ρ M) (found at k (worked ρ C ∷ worked ρ M ∷ []))
        | false ↦ going g
      ])
      | false ↦ going g
    ]
sought q k x at ρ (input C) g =
    elim (not q.output && not (ltb at q.from) && not (eqb (at + 1) q.excluded)) [
      | true ↦ unless (over ρ C) (elim (q.any || same (worked ρ C) x) [ true ↦ found at k [] | false ↦ going g ])
      | false ↦ going g
    ]

-- The copies of the repl thread that was meant: its first one, the same one once more, with copies inside it opening at another name, or a
-- second one.
unfoldable pub sought_in : Quest → CopyAt → ℕ → (Task → Accumulated → TraversalResult) → Accumulated → TraversalResult
sought_in q c k copy g =
    elim (eqb c.arity 0) [
      | true ↦ opened copy (Seek q k) k g
      | false ↦ elim (eqb c.arity 1) [
        | true ↦ returned g.names (copy (Seek q c.second) (named k g))
        | false ↦ opened copy (Seek q k) c.second g
      ]
    ]

-- What a step leaves of the copies of a repl thread: of a thread that is in the process P, or of the repl thread that was meant.
unfoldable pub built_copy : Plan → ℕ → (at : ℕ) → Process → (Task → Accumulated → TraversalResult) → Accumulated → TraversalResult
built_copy b k at P copy g =
    elim (contains b.sender (at + 1) P) [
      | true ↦ opened copy (Build b k) k g
      | false ↦ elim (contains b.taker (at + 1) P) [
        | true ↦ elim (eqb b.sender 0) [ true ↦ opened copy (Build b k) k g | false ↦ opened copy (Build (taking b) k) b.second g ]
        | false ↦ going g
      ]
    ]

unfoldable pub built_copies : Plan → CopyAt → ℕ → (Task → Accumulated → TraversalResult) → Accumulated → TraversalResult
built_copies b c k copy g =
    elim (eqb c.arity 2) [
      | true ↦ further (opened copy (Build (sending b) k) k g) (opened copy (Build (taking b) k) c.second)
      | false ↦ opened copy (Build b k) k g
    ]

-- What is done at a repl thread.
unfoldable pub at_repl : Task → (at : ℕ) → Bound → Process → (Task → Accumulated → TraversalResult) → Accumulated → TraversalResult
at_repl Count at ρ P copy g = going g
at_repl (Judge k) at ρ P copy g = opened copy (Judge k) k g
at_repl Settle at ρ P copy g = further (push at (repl ρ P) g) (λ h. opened copy (Judge h.names) h.names h)
at_repl (Seek q k) at ρ P copy g =
    elim (contains q.excluded (at + 1) P) [ true ↦ going g | false ↦ opened copy (Seek q k) k g ]
at_repl (SeekIn q c k) at ρ P copy g =
    elim (eqb (at + 1) c.place) [
      | true ↦ sought_in q c k copy g
      | false ↦ elim (contains c.place (at + 1) P) [ true ↦ opened copy (SeekIn q c k) k g | false ↦ going g ]
    ]
at_repl (Find f past k) at ρ P copy g =
    elim (eqb (at + 1) f) [
      | true ↦ elim past [ true ↦ going g | false ↦ found at k [] ]
      | false ↦ elim (ltb (at + 1) f && not (contains f (at + 1) P)) [
        | true ↦ going g
        | false ↦ further (opened copy (Find f past k) k g) (λ h. found at k [])
      ]
    ]
at_repl (Build b k) at ρ P copy g = further (built_copy b k at P copy g) (push at (repl ρ P))
at_repl (BuildIn b c k) at ρ P copy g =
    further (
    elim (eqb (at + 1) c.place) [
      | true ↦ built_copies b c k copy g
      | false ↦ elim (contains c.place (at + 1) P) [ true ↦ opened copy (BuildIn b c k) k g | false ↦ going g ]
    ]
    ) (push at (repl ρ P))
