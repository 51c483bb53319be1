-- What the functions inside the crate promise of the pieces of a term ("Messages").
use Rattle.std.specs.Prelude.{Option}
use Rattle.std.specs.Prelude.{◌≡◌, false, List, ◌++◌, ℕ, ◌+◌, ◌*◌, ◌<◌, ltb, length}
use Rattle.meaning.specs.Messages.Term.{Side, side_kind, Binary, binary_kind, Term, leaf, proj, binary, name, variable, Message}
use Rattle.meaning.specs.Messages.Normal.{normal, size}
use Rattle.meaning.specs.Bytes.Encoding.{encode_number}
use Rattle.meaning.specs.Bytes.Standing.{Stands}
use Rattle.meaning.specs.Steps.State.{Bound, worked}
use Rattle.meaning.specs.Judging.Limits.{over}
use Rattle.message_bytes.specs.Encoding.{encode_message}
use Rattle.buffer.specs.Word.{encode_word}
use Rattle.message_normal.specs.Normal.{PartsNormal, first_end}
use Rattle.message_term.specs.Bound.{BoundAt}
use Rattle.message_term.specs.Work.{TermAt, answer_of, end_of, WorkedTo}
use Rattle.message_term.specs.declared.work.Worked.{Worked}

-- If a number stands at the position, it is n and ends at next.
pub record FieldAt (s : List ℕ) (at n next : ℕ) : Type 0 where
  pub same : (v : ℕ) {end : ℕ} → v < 16384 → Stands s at (encode_number v) end → (n ≡ v) × (next ≡ end)

-- The answer and the bytes after the call are those for the public name or the variable whose number stands at the position at.
pub record NameWorked (s : List ℕ) (at start : ℕ) (r : Option Worked) (after : List ℕ) : Type 0 where
  pub exact : (n : ℕ) {next : ℕ} (ρ : Bound) → n < 16384 → Stands s at (encode_number n) next → WorkedTo ρ (leaf (name n)) start next r after

pub record VariableWorked (s : List ℕ) (at : ℕ) (before : List ℕ) (base start : ℕ) (r : Option Worked) (after : List ℕ) : Type 0 where
  pub exact : (k : ℕ) {next : ℕ} (ρ : Bound) → Stands s at (encode_number k) next → k < length ρ → BoundAt before base ρ start
      → WorkedTo ρ (leaf (variable k)) start next r after

-- For whatever message over normal forms stands from start to end, its first part ending at mid, the answer and the bytes after
-- the call are those for its normal form.
pub record Reduced (before : List ℕ) (start mid end next : ℕ) (r : Option Worked) (after : List ℕ) : Type 0 where
  pub answer : (x : Message) → PartsNormal x → Stands before start (encode_message x) end → mid ≡ start + first_end x
      → r ≡ answer_of (ltb 255 (size x)) next (start + 2 * size x)
  pub run : (x : Message) → PartsNormal x → Stands before start (encode_message x) end → mid ≡ start + first_end x
      → ltb 255 (size x) ≡ false → Stands after start (encode_message (normal x)) (start + 2 * size x)

-- The answer and the bytes after the call are those for whatever term of the kind given has its parts from the position at on.
pub record NodeWorked (s : List ℕ) (at left : ℕ) (before : List ℕ) (base start kind : ℕ) (r : Option Worked) (after : List ℕ) : Type 0 where
  pub one : (t : Side) (u : Term) {next : ℕ} (ρ : Bound) → kind ≡ side_kind t → TermAt s at left (length ρ) u next
      → BoundAt before base ρ start → WorkedTo ρ (proj t u) start next r after
  pub two : (b : Binary) (u v : Term) {mid next : ℕ} (ρ : Bound) → kind ≡ binary_kind b → TermAt s at left (length ρ) u mid
      → TermAt s mid left (length ρ) v next → BoundAt before base ρ start → WorkedTo ρ (binary b u v) start next r after

-- For whatever first part stands there, the answer is that for the part, and its run stands behind the kind.
pub record FirstWorked (s : List ℕ) (at left : ℕ) (before : List ℕ) (base start kind : ℕ) (r : Option Worked) (after : List ℕ)
    : Type 0 where
  pub answer : (u : Term) {next : ℕ} (ρ : Bound) → TermAt s at left (length ρ) u next → BoundAt before base ρ start
      → r ≡ answer_of (over ρ u) next (end_of ρ u (start + 2))
  pub run : (u : Term) {next : ℕ} (ρ : Bound) → TermAt s at left (length ρ) u next → BoundAt before base ρ start
      → over ρ u ≡ false → Stands after start (encode_word kind ++ encode_message (worked ρ u)) (end_of ρ u (start + 2))

-- For whatever term of the kind given, its first part being worked and standing behind the kind, from start to mid: a projection,
-- whose bytes end at the position at, or a term whose second part stands there.
pub record SecondWorked (s : List ℕ) (at left : ℕ) (before : List ℕ) (base start mid kind : ℕ) (r : Option Worked) (after : List ℕ)
    : Type 0 where
  pub one : (t : Side) (u : Term) (ρ : Bound) → kind ≡ side_kind t → over ρ u ≡ false
      → Stands before start (encode_word (side_kind t) ++ encode_message (worked ρ u)) mid → WorkedTo ρ (proj t u) start at r after
  pub two : (b : Binary) (u v : Term) {next : ℕ} (ρ : Bound) → kind ≡ binary_kind b → over ρ u ≡ false
      → Stands before start (encode_word (binary_kind b) ++ encode_message (worked ρ u)) mid
      → TermAt s at left (length ρ) v next → BoundAt before base ρ mid → WorkedTo ρ (binary b u v) start next r after
