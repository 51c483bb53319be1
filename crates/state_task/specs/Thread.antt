-- What is found at a position of a process, and what is done at a thread that acts by itself ("Steps").
use Rattle.std.specs.Prelude.{◌≡◌, Bool, true, false, ◌||◌, List, [], ◌∷◌, ℕ, ◌+◌, ◌≤◌, length}
use Rattle.meaning.specs.Messages.Term.{Term, Message}
use Rattle.meaning.specs.Messages.Normal.{same}
use Rattle.meaning.specs.Bytes.Process.{Prefix, Process}
use Rattle.meaning.specs.Bytes.Standing.{Stands}
use Rattle.meaning.specs.Steps.State.{Bound, worked, act}
use Rattle.meaning.specs.Judging.Limits.{over}
use Rattle.message_bytes.specs.Encoding.{encode_message}
use Rattle.message_term.specs.Bound.{BoundTo}
use Rattle.message_term.specs.Work.{TermAt}
use Rattle.state_record.specs.Place.{ProcessAt, body_at}
use Rattle.state_progress.specs.TraversalResult.{Accumulated, TraversalResult, going, found, further, unless, push}
use Rattle.state_task.specs.Machine.{offered, sought}
use Rattle.state_progress.specs.Represented.{Represents, RepresentsResult, Over, encode_messages}
use Rattle.state_task.specs.declared.task.Quest.{Quest}
use Rattle.state_progress.specs.declared.progress.Progress.{Progress}

-- Whatever term stands at the position at, it is worked for its limits. A traversal that goes no further is left as it is.
pub record Judges (s : List ℕ) (at : ℕ) (m : List ℕ) (end : ℕ) (now r : Progress) : Type 0 where
  pub stopped : Over now → Over r
  pub exact : (t : Term) (ρ : Bound) (g : Accumulated) {next : ℕ} (out : List ℕ) → TermAt s at 8 (length ρ) t next → BoundTo m 0 ρ end
      → Represents s out now g → RepresentsResult s out r (unless (over ρ t) (going g))

-- Whatever thread has its process at the position at, what it offers by itself is judged; or it is written first.
pub record Offers (s : List ℕ) (at : ℕ) (m : List ℕ) (end : ℕ) (now r : Progress) : Type 0 where
  pub exact : (p : Prefix) (P : Process) (ρ : Bound) (g : Accumulated) {left next : ℕ} (out : List ℕ)
      → ProcessAt s at left (length ρ) (Process.act p P) next → BoundTo m 0 ρ end → Represents s out now g
      → RepresentsResult s out r (offered ρ p P g)

pub record Settles (s : List ℕ) (at : ℕ) (m : List ℕ) (end : ℕ) (out : List ℕ) (now r : Progress) (after : List ℕ) : Type 0 where
  pub exact : (p : Prefix) (P : Process) (ρ : Bound) (g : Accumulated) {left next : ℕ} → left ≤ 64
      → ProcessAt s at left (length ρ) (Process.act p P) next → BoundTo m 0 ρ end → Represents s out now g
      → RepresentsResult s after r (further (push at (act ρ p P) g) (offered ρ p P))

-- Two runs are those of one message, or any will do.
pub record Agrees (any : Bool) (channel argument : List ℕ) (r : Bool) : Type 0 where
  pub exact : (x y : Message) → channel ≡ encode_message x → argument ≡ encode_message y → r ≡ (any || same x y)

-- The two messages that stand one after the other in m are handed over.
pub record HandsMessages (m : List ℕ) (from to at next : ℕ) (out : List ℕ) (now r : Progress) (after : List ℕ) : Type 0 where
  pub exact : (s : List ℕ) (g : Accumulated) (x y : Message) → Stands m from (encode_messages (x ∷ y ∷ [])) to → to ≤ from + 1020 → Represents s out now g
      → RepresentsResult s after r (found at next (x ∷ y ∷ []))

-- The offer of whatever thread stands at the position at: whose channel is the one that is looked for; whose channel is compared; and which
-- is looked at.
abbrev pub handed_over : ℕ → ℕ → Bound → Prefix → TraversalResult
handed_over at k ρ (Prefix.output C M) = unless (over ρ M) (found at k (worked ρ C ∷ worked ρ M ∷ []))
handed_over at k ρ (Prefix.input C) = found at k []

abbrev pub channel_of : Prefix → Term
channel_of (Prefix.output C M) = C
channel_of (Prefix.input C) = C

pub record Hands (s : List ℕ) (at next : ℕ) (m : List ℕ) (end last k : ℕ) (out : List ℕ) (now r : Progress) (after : List ℕ) : Type 0 where
  pub exact : (p : Prefix) (P : Process) (ρ : Bound) (g : Accumulated) {left stop : ℕ}
      → ProcessAt s at left (length ρ) (Process.act p P) stop → BoundTo m 0 ρ end → next ≡ body_at at (channel_of p)
      → Stands m end (encode_message (worked ρ (channel_of p))) last → last ≤ end + 510 → Represents s out now g
      → RepresentsResult s after r (handed_over at k ρ p)

pub record Channels (s argument : List ℕ) (at : ℕ) (m : List ℕ) (end : ℕ) (any : Bool) (k : ℕ) (out : List ℕ) (now r : Progress) (after : List ℕ)
    : Type 0 where
  pub exact : (p : Prefix) (P : Process) (x : Message) (ρ : Bound) (g : Accumulated) {left stop : ℕ}
      → ProcessAt s at left (length ρ) (Process.act p P) stop → BoundTo m 0 ρ end → argument ≡ encode_message x → Represents s out now g
      → RepresentsResult s after r (unless (over ρ (channel_of p)) (
      elim (any || same (worked ρ (channel_of p)) x) [ true ↦ handed_over at k ρ p | false ↦ going g ]))

pub record Seeks (s argument : List ℕ) (at : ℕ) (m : List ℕ) (end : ℕ) (q : Quest) (k : ℕ) (out : List ℕ) (now r : Progress) (after : List ℕ)
    : Type 0 where
  pub exact : (p : Prefix) (P : Process) (x : Message) (ρ : Bound) (g : Accumulated) {left stop : ℕ}
      → ProcessAt s at left (length ρ) (Process.act p P) stop → BoundTo m 0 ρ end → argument ≡ encode_message x → Represents s out now g
      → RepresentsResult s after r (sought q k x at ρ p g)
