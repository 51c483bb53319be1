-- A term or a recipe worked under bound messages ("Messages"; "Judging and its count", 255 nodes).
use Rattle.std.specs.Prelude.{◌≡◌, Bool, true, false, Option, Some, None, List, ℕ, ◌+◌, ◌*◌, ◌≤◌, length}
use Rattle.meaning.specs.Messages.Term.{Term}
use Rattle.meaning.specs.Messages.Normal.{size}
use Rattle.meaning.specs.Bytes.Encoding.{encode_term}
use Rattle.meaning.specs.Bytes.Nesting.{term_depth}
use Rattle.meaning.specs.Bytes.Scope.{TermScoped}
use Rattle.meaning.specs.Bytes.Standing.{Stands}
use Rattle.meaning.specs.Steps.State.{Bound, written, worked}
use Rattle.meaning.specs.Judging.Limits.{over}
use Rattle.message_bytes.specs.Encoding.{encode_message}
use Rattle.message_term.specs.Bound.{BoundAt, Binds}
use Rattle.message_term.specs.declared.work.Worked.{Worked}

-- A term stands in s from at to next, with every variable in scope and at most left nodes on a path.
pub record TermAt (s : List ℕ) (at left scope : ℕ) (t : Term) (next : ℕ) : Type 0 where
  pub stands : Stands s at (encode_term t) next
  pub deep : term_depth t ≤ left
  pub scoped : TermScoped scope t

-- A term that ends at next and a message that ends at end.
abbrev pub done : (next end : ℕ) → Option Worked
done next end = Some (record { next = next; end = end })

-- The answer: where the term ends and where its message ends; or that it or a part of it is too large.
unfoldable pub answer_of : Bool → (next end : ℕ) → Option Worked
answer_of true next end = None
answer_of false next end = done next end

-- A message takes two bytes to a node.
abbrev pub end_of : Bound → Term → (start : ℕ) → ℕ
end_of ρ t start = start + 2 * size (written ρ t)

-- The answer r and the bytes after the call are those for the term t under ρ, worked at the position start.
pub record WorkedTo (ρ : Bound) (t : Term) (start next : ℕ) (r : Option Worked) (after : List ℕ) : Type 0 where
  pub answer : r ≡ answer_of (over ρ t) next (end_of ρ t start)
  pub run : over ρ t ≡ false → Stands after start (encode_message (worked ρ t)) (end_of ρ t start)

-- That holds for whatever term stands at the position at and whatever messages are bound at base.
pub record Works (s : List ℕ) (at left : ℕ) (before : List ℕ) (base start : ℕ) (r : Option Worked) (after : List ℕ) : Type 0 where
  pub exact : (t : Term) {next : ℕ} (ρ : Bound) → TermAt s at left (length ρ) t next → BoundAt before base ρ start
      → WorkedTo ρ t start next r after

-- Where there is a message it has at most 255 nodes, and there was a node left for its term.
pub record Reaches (start left : ℕ) (r : Option Worked) : Type 0 where
  pub there : (x : Worked) → r ≡ Some x → (start ≤ x.end) × (x.end ≤ start + 510) × (1 ≤ left)

-- For whatever term stands there and whatever messages are bound at base, the answer is that for the term, and its message is bound after
-- whatever messages are bound up to the position end.
pub record BindWorked (s : List ℕ) (at : ℕ) (before : List ℕ) (base end : ℕ) (r : Option Worked) (after : List ℕ) : Type 0 where
  pub answer : (t : Term) {next : ℕ} (ρ : Bound) → TermAt s at 8 (length ρ) t next → BoundAt before base ρ end
      → r ≡ answer_of (over ρ t) next (end_of ρ t (end + 2))
  pub run : (t : Term) {next : ℕ} (ρ : Bound) → TermAt s at 8 (length ρ) t next → BoundAt before base ρ end
      → over ρ t ≡ false → Binds before end (worked ρ t) (end_of ρ t (end + 2)) after
