-- The head of a process: what settling comes to below every new, if and let, of which only names and messages are left ("Steps").
use Rattle.std.specs.Prelude.{◌≡◌, Bool, true, false, Option, Some, None, List, ◌⊎◌, ℕ, ◌+◌, ◌*◌, ◌≤◌, ◌<◌, length, get_or}
use Rattle.meaning.specs.Messages.Term.{Message}
use Rattle.meaning.specs.Bytes.Process.{Process}
use Rattle.meaning.specs.Bytes.Nesting.{variables}
use Rattle.meaning.specs.Steps.State.{Bound}
use Rattle.message_term.specs.Bound.{BoundTo}
use Rattle.state_record.specs.Place.{ProcessAt}
use Rattle.state_progress.specs.TraversalResult.{Accumulated, over_limit, named}
use Rattle.state_task.specs.declared.task.Task.{Task}
use Rattle.state_head.specs.News.{news, later_news}
use Rattle.state_head.specs.Traversal.{go}
use Rattle.state_head.specs.declared.head.Head.{Head}
use Rattle.index_process.specs.Index.{ShortModel}

-- Bound messages end at a position of the buffer.
abbrev pub BoundFits : (s m : List ℕ) (end : ℕ) → Type 0
BoundFits s m end = (end ≤ length m) × ShortModel s

-- A node is left for the process at a position, a byte of the model stands there, and there is room to work terms above the bound messages.
abbrev pub RoomAtNode : (s : List ℕ) (at left : ℕ) (m : List ℕ) (end : ℕ) → Type 0
RoomAtNode s at left m end = (1 ≤ left) × (at < length s) × (end + 4606 ≤ length m) × ShortModel s

-- A process that stands at a position and can be settled at the private name n: its messages are bound, there is room for whatever it may
-- bind or work, and two bytes hold its private names.
pub record CanSettle (s : List ℕ) (at left : ℕ) (m : List ℕ) (end n : ℕ) (P : Process) (ρ : Bound) : Type 0 where
  pub next : ℕ
  pub process : ProcessAt s at left (length ρ) P next
  pub bound : BoundTo m 0 ρ end
  pub room : end + 512 * variables P + 4606 ≤ length m
  pub fits : n + news P ≤ 32760

-- The traversal of P at a position, settled at n, meets a limit, whatever its task; or it is the traversal of Q at another one, settled at k.
pub record MeetsLimit (P : Process) (at : ℕ) (ρ : Bound) (n : ℕ) : Type 0 where
  pub over : (T : Task) (x : Message) (g : Accumulated) → go P T x at ρ (named n g) ≡ over_limit

pub record SameTraversal (P : Process) (at : ℕ) (ρ : Bound) (n : ℕ) (Q : Process) (to : ℕ) (σ : Bound) (k : ℕ) : Type 0 where
  pub same : (T : Task) (x : Message) (g : Accumulated) → go P T x at ρ (named n g) ≡ go Q T x to σ (named k g)
  pub later : later_news Q ≤ later_news P

-- A process that can be settled stands at the head h, and the traversal of P is the one over it.
pub record HasHead (s : List ℕ) (P : Process) (at : ℕ) (ρ : Bound) (n : ℕ) (h : Head) (m : List ℕ) : Type 0 where
  pub process : Process
  pub bound : Bound
  pub settles : CanSettle s h.at h.left m h.end h.names process bound
  pub traverses : SameTraversal P at ρ n process h.at bound h.names

-- Whatever process stands there, that is so.
pub record Descends (s : List ℕ) (at left : ℕ) (m : List ℕ) (end n : ℕ) (r : Option Head) (after : List ℕ) : Type 0 where
  pub over : r ≡ None → (P : Process) (ρ : Bound) → CanSettle s at left m end n P ρ → MeetsLimit P at ρ n
  pub head : (h : Head) → r ≡ Some h → (P : Process) (ρ : Bound) → CanSettle s at left m end n P ρ → HasHead s P at ρ n h after

-- The same, if that process is of a kind.
pub record DescendsIf (kind : ℕ) (s : List ℕ) (at left : ℕ) (m : List ℕ) (end n : ℕ) (r : Option Head) (after : List ℕ) : Type 0 where
  pub exact : get_or s at 0 ≡ kind → Descends s at left m end n r after

-- The kinds new, if and let; and the way down from a head of one of them.
abbrev pub Passing : ℕ → Type 0
Passing kind = (kind ≡ 1) ⊎ ((kind ≡ 4) ⊎ (kind ≡ 5))

pub record DescendsFrom (f : Head) (s m : List ℕ) (r : Option Head) (after : List ℕ) : Type 0 where
  pub exact : Passing (get_or s f.at 0) → Descends s f.at f.left m f.end f.names r after

-- Whether the head is of these kinds.
pub record IsPassed (s : List ℕ) (h : Head) (r : Bool) : Type 0 where
  pub some : r ≡ true → Passing (get_or s h.at 0)
  pub none : r ≡ false → Passing (get_or s h.at 0) → ⊥

-- The head is of another kind.
pub record Settled (s : List ℕ) (h : Head) : Type 0 where
  pub other : Passing (get_or s h.at 0) → ⊥

-- A byte stands at the head, a node is left for it, and there is room to work terms in so many bytes.
pub record HasRoom (s : List ℕ) (size : ℕ) (h : Head) : Type 0 where
  pub node : 1 ≤ h.left
  pub byte : h.at < length s
  pub room : h.end + 4606 ≤ size

-- A limit was met; or the head is the process at a position itself, if there is room.
pub record Arrives (s : List ℕ) (at left size end n : ℕ) (r : Option Head) : Type 0 where
  pub descends : (m : List ℕ) → length m ≡ size → Descends s at left m end n r m
