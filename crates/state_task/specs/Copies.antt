-- Which copies of a repl thread each task opens, and what is done with the thread itself ("Steps"): what is done there, as data. That this is
-- what the traversal does is proved in proofs/Laws/Copies.
use Rattle.std.specs.Prelude.{Bool, true, false, not, ◌&&◌, [], ℕ, ◌+◌, ltb, eqb}
use Rattle.meaning.specs.Bytes.Process.{Process}
use Rattle.meaning.specs.Steps.State.{Bound, repl}
use Rattle.state_progress.specs.TraversalResult.{Accumulated, TraversalResult, going, found, further, named, returned, push}
use Rattle.state_task.specs.Machine.{contains, opened, sending, taking}
use Rattle.state_task.specs.declared.task.Task.{Task}
use Rattle.state_task.specs.declared.task.Task.TheVariants.{Count, Judge, Settle, Seek, SeekIn, Find, Build, BuildIn}
use Rattle.state_task.specs.declared.task.Quest.{Quest}
use Rattle.state_task.specs.declared.task.CopyAt.{CopyAt}
use Rattle.state_task.specs.declared.task.Plan.{Plan}
use Rattle.state_task.specs.declared.opening.Opening.{Opening}
use Rattle.state_task.specs.declared.opening.Opening.TheVariants.{None, Copy, Again}
use Rattle.state_task.specs.declared.opening.Own.{Own}
use Rattle.state_task.specs.declared.opening.Own.TheVariants.{Passed, Before, After, Found}
use Rattle.state_task.specs.declared.opening.Copies.{Copies}

abbrev pub one : Own → Opening → Copies
one own o = record { own = own; first = o; second = None }

-- A copy of a repl thread that has a mark in it.
unfoldable pub within : ℕ → Opening → (at : ℕ) → Process → Opening
within mark o at P = elim (contains mark (at + 1) P) [ true ↦ o | false ↦ None ]

-- A copy that is judged.
abbrev pub judging : Own → ℕ → Copies
judging own n = one own (Copy (Judge n) n)

-- An offer is sought: in a copy; in the copies of the repl thread that was meant.
unfoldable pub seeking : Quest → ℕ → (at : ℕ) → Process → Opening
seeking q k at P = elim (contains q.excluded (at + 1) P) [ true ↦ None | false ↦ Copy (Seek q k) k ]

unfoldable pub target : Quest → CopyAt → ℕ → Opening
target q c k =
    elim (eqb c.arity 0) [
      | true ↦ Copy (Seek q k) k
      | false ↦ elim (eqb c.arity 1) [ true ↦ Again (Seek q c.second) k | false ↦ Copy (Seek q k) c.second ]
    ]

unfoldable pub seeking_in : Quest → CopyAt → ℕ → (at : ℕ) → Process → Opening
seeking_in q c k at P =
    elim (eqb (at + 1) c.place) [ true ↦ target q c k | false ↦ within c.place (Copy (SeekIn q c k) k) at P ]

-- A repl thread is found, if neither it nor one in its copy is passed.
unfoldable pub passes : ℕ → Bool → (at : ℕ) → Process → Bool
passes f past at P = elim (eqb (at + 1) f) [ true ↦ past | false ↦ ltb (at + 1) f && not (contains f (at + 1) P) ]

unfoldable pub finding : ℕ → Bool → ℕ → (at : ℕ) → Process → Copies
finding f past k at P =
    elim (passes f past at P) [
      | true ↦ one Passed None
      | false ↦ one (Found k) (elim (eqb (at + 1) f) [ true ↦ None | false ↦ Copy (Find f past k) k ])
    ]

-- What a step leaves of a copy with the taker in it, or with the sender or the taker; and of the copies of the repl thread that was meant.
unfoldable pub taken : Plan → ℕ → Opening
taken b k = elim (eqb b.sender 0) [ true ↦ Copy (Build b k) k | false ↦ Copy (Build (taking b) k) b.second ]

unfoldable pub builder : Plan → ℕ → (at : ℕ) → Process → Opening
builder b k at P = elim (contains b.sender (at + 1) P) [ true ↦ Copy (Build b k) k | false ↦ within b.taker (taken b k) at P ]

unfoldable pub rebuilt : Plan → CopyAt → ℕ → Copies
rebuilt b c k =
    elim (eqb c.arity 2) [
      | true ↦ record { own = After; first = Copy (Build (sending b) k) k; second = Copy (Build (taking b) k) c.second }
      | false ↦ one After (Copy (Build b k) k)
    ]

unfoldable pub building_in : Plan → CopyAt → ℕ → (at : ℕ) → Process → Copies
building_in b c k at P =
    elim (eqb (at + 1) c.place) [
      | true ↦ rebuilt b c k
      | false ↦ one After (within c.place (Copy (BuildIn b c k) k) at P)
    ]

-- What each task does at a repl thread of the process P that stands at a position, if n is the next private name.
abbrev pub copies_at : Task → (at n : ℕ) → Process → Copies
copies_at Count at n P = one Passed None
copies_at (Judge k) at n P = judging Passed k
copies_at Settle at n P = judging Before n
copies_at (Seek q k) at n P = one Passed (seeking q k at P)
copies_at (SeekIn q c k) at n P = one Passed (seeking_in q c k at P)
copies_at (Find f past k) at n P = finding f past k at P
copies_at (Build b k) at n P = one After (builder b k at P)
copies_at (BuildIn b c k) at n P = building_in b c k at P

-- It is done: in a copy, and with the thread itself, before and after.
abbrev pub opened_by : Opening → (Task → Accumulated → TraversalResult) → Accumulated → TraversalResult
opened_by None copy g = going g
opened_by (Copy T n) copy g = opened copy T n g
opened_by (Again T n) copy g = returned g.names (copy T (named n g))

abbrev pub firstly : Own → (at : ℕ) → Bound → Process → Accumulated → TraversalResult
firstly Passed at ρ P g = going g
firstly Before at ρ P g = push at (repl ρ P) g
firstly After at ρ P g = going g
firstly (Found k) at ρ P g = going g

abbrev pub lastly : Own → (at : ℕ) → Bound → Process → Accumulated → TraversalResult
lastly Passed at ρ P g = going g
lastly Before at ρ P g = going g
lastly After at ρ P g = push at (repl ρ P) g
lastly (Found k) at ρ P g = found at k []

-- After what has come before, the copies are opened and the thread is done with; and all of it.
abbrev pub in_copies : Copies → (Task → Accumulated → TraversalResult) → TraversalResult → TraversalResult
in_copies c copy d = further (further d (opened_by c.first copy)) (opened_by c.second copy)

abbrev pub performed : Copies → (at : ℕ) → Bound → Process → (Task → Accumulated → TraversalResult) → Accumulated → TraversalResult
performed c at ρ P copy g = further (in_copies c copy (firstly c.own at ρ P g)) (lastly c.own at ρ P)
