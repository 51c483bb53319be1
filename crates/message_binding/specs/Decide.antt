-- Two terms compared ("Steps": if is decided; "Judging and its count", 255 nodes).
use Rattle.std.specs.Prelude.{◌≡◌, Bool, true, false, ◌||◌, Option, Some, None, List, ℕ, length}
use Rattle.meaning.specs.Messages.Term.{Term, Message}
use Rattle.meaning.specs.Messages.Normal.{equal, same}
use Rattle.meaning.specs.Bytes.Standing.{Stands}
use Rattle.meaning.specs.Steps.State.{Bound, written, worked}
use Rattle.meaning.specs.Judging.Limits.{over}
use Rattle.message_bytes.specs.Encoding.{encode_message}
use Rattle.message_term.specs.Bound.{BoundAt}
use Rattle.message_term.specs.Work.{TermAt}
use Rattle.message_binding.specs.declared.decide.Compared.{Compared}

-- The answer: where the second term ends and whether the two are equal; or that one of them or a part of it is too large.
unfoldable pub compared_of : Bool → (next : ℕ) → Bool → Option Compared
compared_of true next b = None
compared_of false next b = Some (record { next = next; same = b })

-- For whatever two terms stand one after the other, with whatever messages bound at base, the answer is theirs.
pub record Compares (s : List ℕ) (at : ℕ) (before : List ℕ) (base start : ℕ) (r : Option Compared) : Type 0 where
  pub exact : (t u : Term) {mid next : ℕ} (ρ : Bound) → TermAt s at 8 (length ρ) t mid → TermAt s mid 8 (length ρ) u next
      → BoundAt before base ρ start → r ≡ compared_of (over ρ t || over ρ u) next (equal (written ρ t) (written ρ u))

-- The same for the second, where the normal form of some message stands from start to mid.
pub record SecondCompared (s : List ℕ) (at : ℕ) (before : List ℕ) (base start mid : ℕ) (r : Option Compared) : Type 0 where
  pub exact : (x : Message) (u : Term) {next : ℕ} (ρ : Bound) → TermAt s at 8 (length ρ) u next → BoundAt before base ρ mid
      → Stands before start (encode_message x) mid → r ≡ compared_of (over ρ u) next (same x (worked ρ u))
