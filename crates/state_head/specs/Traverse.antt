-- What a call of the traversal promises: its answer and the bytes show the course of the traversal ("Steps").
use Rattle.std.specs.Prelude.{◌≡◌, false, List, [], ◌∷◌, ℕ, ◌+◌, ◌-◌, ◌*◌, ◌≤◌, length, get_or}
use Rattle.meaning.specs.Messages.Term.{Message, Term}
use Rattle.meaning.specs.Messages.Equation.{Normal}
use Rattle.meaning.specs.Bytes.Process.{Prefix, Process}
use Rattle.meaning.specs.Bytes.Encoding.{encode_process}
use Rattle.meaning.specs.Bytes.Nesting.{variables}
use Rattle.meaning.specs.Bytes.Standing.{Stands}
use Rattle.meaning.specs.Places.{Every}
use Rattle.meaning.specs.Steps.State.{Bound, ◌▸◌}
use Rattle.buffer.specs.Buffer.{Within}
use Rattle.message_bytes.specs.Encoding.{encode_message}
use Rattle.message_term.specs.Bound.{BoundTo}
use Rattle.state_record.specs.Place.{ProcessAt, body_at, rest_at}
use Rattle.state_progress.specs.Progress.{Extends}
use Rattle.state_progress.specs.Represented.{Represents, RepresentsResult}
use Rattle.state_head.specs.News.{news, later_news}
use Rattle.state_progress.specs.TraversalResult.{Accumulated, TraversalResult, going, further, named, returned}
use Rattle.state_task.specs.Machine.{opened}
use Rattle.state_head.specs.Traversal.{built, at_prefix, go}
use Rattle.state_head.specs.Head.{Passing}
use Rattle.state_head.specs.declared.head.Head.{Head}
use Rattle.state_task.specs.Copies.{opened_by, in_copies, lastly}
use Rattle.state_task.specs.declared.task.Task.{Task}
use Rattle.state_task.specs.declared.task.Task.TheVariants.{Count, Judge, Settle, Seek, SeekIn, Find, Build, BuildIn}
use Rattle.state_task.specs.declared.task.Plan.{Plan}
use Rattle.state_task.specs.declared.opening.Opening.{Opening}
use Rattle.state_task.specs.declared.opening.Opening.TheVariants.{None, Copy, Again}
use Rattle.state_task.specs.declared.opening.Copies.{Copies}
use Rattle.state_progress.specs.declared.progress.Progress.{Progress}
use Rattle.index_process.specs.Index.{ShortModel}

-- The private names of a task, at which copies open or something is settled.
abbrev pub numbers_of : Task → List ℕ
numbers_of Count = []
numbers_of (Judge k) = k ∷ []
numbers_of Settle = []
numbers_of (Seek q k) = k ∷ []
numbers_of (SeekIn q c k) = k ∷ c.second ∷ []
numbers_of (Find f past k) = k ∷ []
numbers_of (Build b k) = k ∷ b.second ∷ b.rest ∷ b.last ∷ []
numbers_of (BuildIn b c k) = k ∷ c.second ∷ b.second ∷ b.rest ∷ b.last ∷ []

-- Two bytes can hold every private name that the traversal may take.
pub record NamesFit (T : Task) (n : ℕ) (P : Process) : Type 0 where
  pub own : n + news P ≤ 32760
  pub others : Every (λ k. k + later_news P ≤ 32760) (numbers_of T)

-- The marks of the threads that act are those of an output and of an input.
abbrev pub MarksMeant : List ℕ → Plan → Type 0
MarksMeant s b = ((t : ℕ) → t + 1 ≡ b.sender → get_or s t 0 ≡ 2) × ((t : ℕ) → t + 1 ≡ b.taker → get_or s t 0 ≡ 3)

abbrev pub Meant : List ℕ → Task → Type 0
Meant s Count = Unit {0}
Meant s (Judge k) = Unit {0}
Meant s Settle = Unit {0}
Meant s (Seek q k) = Unit {0}
Meant s (SeekIn q c k) = Unit {0}
Meant s (Find f past k) = Unit {0}
Meant s (Build b k) = MarksMeant s b
Meant s (BuildIn b c k) = MarksMeant s b

-- What a traversal starts from: a process at a position, the message of a label, the messages that are bound, and room for whatever the
-- process may bind or work.
pub record Ready (s argument : List ℕ) (at left : ℕ) (m : List ℕ) (end : ℕ) (T : Task) (P : Process) (x : Message) (ρ : Bound) (g : Accumulated) : Type 0
  where
    pub next : ℕ
    pub process : ProcessAt s at left (length ρ) P next
    pub shallow : left ≤ 64
    pub short : ShortModel s
    pub labelled : argument ≡ encode_message x
    pub small : length argument ≤ 510
    pub normal : Normal x
    pub bound : BoundTo m 0 ρ end
    pub room : end + 512 * variables P + 4606 ≤ length m
    pub fits : NamesFit T g.names P
    pub meant : Meant s T

-- What every call leaves as it was: where the state begins and that it ends no earlier, the messages that are bound, and the records.
abbrev pub Leaves : (end : ℕ) (m m₁ out out₁ : List ℕ) (now r : Progress) → Type 0
Leaves end m m₁ out out₁ now r = Extends now r × Within end (length m) m m₁ × Within now.state.end (length out) out out₁

-- Whatever process stands there, the answer and the bytes after the call show the course of the traversal of it.
pub record NodeTraverses (s argument : List ℕ) (at left : ℕ) (m : List ℕ) (end : ℕ) (T : Task) (out : List ℕ) (now r : Progress) (after : List ℕ)
    : Type 0 where
  pub exact : (P : Process) (x : Message) (ρ : Bound) (g : Accumulated) → Ready s argument at left m end T P x ρ g → Represents s out now g
      → RepresentsResult s after r (go P T x at ρ g)

-- The same at a head, with its next private name, if it is of no kind that is passed.
pub record HeadTraverses (s argument : List ℕ) (h : Head) (m : List ℕ) (T : Task) (out : List ℕ) (now r : Progress) (after : List ℕ) : Type 0 where
  pub exact : (Passing (get_or s h.at 0) → ⊥) → (P : Process) (x : Message) (ρ : Bound) (g : Accumulated)
      → Ready s argument h.at h.left m h.end T P x ρ (named h.names g) → Represents s out now g
      → RepresentsResult s after r (go P T x h.at ρ (named h.names g))

-- The same, if that process is of a kind.
pub record TraversesIf (kind : ℕ) (s argument : List ℕ) (at left : ℕ) (m : List ℕ) (end : ℕ) (T : Task) (out : List ℕ) (now r : Progress)
    (after : List ℕ) : Type 0 where
  pub exact : get_or s at 0 ≡ kind → NodeTraverses s argument at left m end T out now r after

-- The same, and a traversal that goes no further is left as it is.
pub record Traverses (s argument : List ℕ) (at left : ℕ) (m : List ℕ) (end : ℕ) (T : Task) (out : List ℕ) (now r : Progress) (after : List ℕ) : Type 0
  where
    pub stopped : now.going ≡ false → (r ≡ now) × (after ≡ out)
    pub traverses : NodeTraverses s argument at left m end T out now r after

-- The same with the next private name from before given back.
pub record Returns (before : ℕ) (s argument : List ℕ) (at left : ℕ) (m : List ℕ) (end : ℕ) (T : Task) (out : List ℕ) (now r : Progress)
    (after : List ℕ) : Type 0 where
  pub exact : (P : Process) (x : Message) (ρ : Bound) (g : Accumulated) → Ready s argument at left m end T P x ρ g → Represents s out now g
      → RepresentsResult s after r (returned before (go P T x at ρ g))

-- A thread that acts by itself.
pub record AtPrefix (s argument : List ℕ) (at left : ℕ) (m : List ℕ) (end : ℕ) (T : Task) (out : List ℕ) (now r : Progress) (after : List ℕ) : Type 0
  where
    pub exact : (p : Prefix) (P : Process) (x : Message) (ρ : Bound) (g : Accumulated) → Ready s argument at left m end T (Process.act p P) x ρ g
        → Represents s out now g → RepresentsResult s after r (at_prefix T x at ρ p P (λ σ. go P Settle x (rest_at at p) σ) g)

pub record ActsAs (b : Plan) (s argument : List ℕ) (at left : ℕ) (m : List ℕ) (end : ℕ) (out : List ℕ) (now r : Progress) (after : List ℕ) : Type 0
  where
    pub exact : (p : Prefix) (P : Process) (x : Message) (ρ : Bound) (g : Accumulated) {k : ℕ}
        → Ready s argument at left m end (Build b k) (Process.act p P) x ρ g → Represents s out now g
        → RepresentsResult s after r (built b x at ρ p P (λ σ. go P Settle x (rest_at at p) σ) g)

-- What follows it, settled at the private name n, under the messages that are bound; and what follows an input, under that of the label too.
pub record SettlesContinuation (n : ℕ) (s argument : List ℕ) (at left : ℕ) (m : List ℕ) (end : ℕ) (out : List ℕ) (now r : Progress) (after : List ℕ) : Type 0
  where
    pub exact : (p : Prefix) (P : Process) (x : Message) (ρ : Bound) (g : Accumulated) {next : ℕ}
        → Stands s at (encode_process (Process.act p P)) next → Ready s argument (rest_at at p) (left - 1) m end Settle P x ρ (named n g)
        → Represents s out now g → RepresentsResult s after r (returned g.names (go P Settle x (rest_at at p) ρ (named n g)))

pub record Receives (n : ℕ) (s argument : List ℕ) (at left : ℕ) (m : List ℕ) (end : ℕ) (out : List ℕ) (now r : Progress) (after : List ℕ) : Type 0
  where
    pub exact : (C : Term) (P : Process) (x : Message) (ρ : Bound) (g : Accumulated) {T : Task}
        → Ready s argument at left m end T (Process.act (Prefix.input C) P) x ρ g → n + news P ≤ 32760 → Represents s out now g
        → RepresentsResult s after r (returned g.names (go P Settle x (body_at at C) (ρ ▸ x) (named n g)))

-- A copy of a repl thread of the process P can be opened: two bytes hold every private name that it may take, and its marks are meant.
pub record CanOpen (s : List ℕ) (P : Process) (T : Task) (n : ℕ) : Type 0 where
  pub own : n + news P ≤ 32760
  pub others : Every (λ k. k + news P ≤ 32760) (numbers_of T)
  pub meant : Meant s T

abbrev pub Openable : List ℕ → Process → Opening → Type 0
Openable s P None = Unit {0}
Openable s P (Copy T n) = CanOpen s P T n
Openable s P (Again T n) = CanOpen s P T n

abbrev pub AllOpenable : List ℕ → Process → Copies → Type 0
AllOpenable s P c = Openable s P c.first × Openable s P c.second

-- A copy of a repl thread, opened at the private name n for a task.
abbrev pub copy_of : ℕ → Process → Message → Bound → Task → Accumulated → TraversalResult
copy_of at P x ρ U = go P U x (at + 1) ρ

pub record Opens (T : Task) (n : ℕ) (s argument : List ℕ) (at left : ℕ) (m : List ℕ) (end : ℕ) (out : List ℕ) (now r : Progress)
    (after : List ℕ) : Type 0 where
  pub exact : (P : Process) (x : Message) (ρ : Bound) (g : Accumulated) → Ready s argument at left m end T (Process.repl P) x ρ g
      → n + news P ≤ 32760 → Represents s out now g → RepresentsResult s after r (opened (copy_of at P x ρ) T n g)

-- After what has come before, which leaves the next private name as it was: a copy, or none; both copies; and then the thread itself.
pub record OpensBy (o : Opening) (s argument : List ℕ) (at left : ℕ) (m : List ℕ) (end : ℕ) (out : List ℕ) (now r : Progress)
    (after : List ℕ) : Type 0 where
  pub exact : (P : Process) (x : Message) (ρ : Bound) (g : Accumulated) {T : Task} → Ready s argument at left m end T (Process.repl P) x ρ g
      → Openable s P o → (d : TraversalResult) → ((h : Accumulated) → d ≡ going h → h.names ≡ g.names) → RepresentsResult s out now d
      → RepresentsResult s after r (further d (opened_by o (copy_of at P x ρ)))

pub record OpensBoth (c : Copies) (s argument : List ℕ) (at left : ℕ) (m : List ℕ) (end : ℕ) (out : List ℕ) (now r : Progress)
    (after : List ℕ) : Type 0 where
  pub exact : (P : Process) (x : Message) (ρ : Bound) (g : Accumulated) {T : Task} → Ready s argument at left m end T (Process.repl P) x ρ g
      → AllOpenable s P c → (d : TraversalResult) → ((h : Accumulated) → d ≡ going h → h.names ≡ g.names) → RepresentsResult s out now d
      → RepresentsResult s after r (in_copies c (copy_of at P x ρ) d)

pub record Performs (c : Copies) (s argument : List ℕ) (at left : ℕ) (m : List ℕ) (end : ℕ) (out : List ℕ) (now r : Progress)
    (after : List ℕ) : Type 0 where
  pub exact : (P : Process) (x : Message) (ρ : Bound) (g : Accumulated) {T : Task} → Ready s argument at left m end T (Process.repl P) x ρ g
      → AllOpenable s P c → (d : TraversalResult) → ((h : Accumulated) → d ≡ going h → h.names ≡ g.names) → RepresentsResult s out now d
      → RepresentsResult s after r (further (in_copies c (copy_of at P x ρ) d) (lastly c.own at ρ P))
