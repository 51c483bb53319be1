-- A recipe worked at a state ("Steps"; "Judging and its count", 255 nodes).
use Rattle.std.specs.Prelude.{Option, List, ℕ, length}
use Rattle.meaning.specs.Messages.Term.{Term}
use Rattle.meaning.specs.Steps.State.{Bound}
use Rattle.message_term.specs.Bound.{BoundAt}
use Rattle.message_term.specs.Work.{TermAt, WorkedTo}
use Rattle.message_term.specs.declared.work.Worked.{Worked}

-- Whatever recipe stands there and whatever messages are bound: the answer is that for the recipe, and its message stands at the front of a
-- slice.
pub record Recipes (f : List ℕ) (at base start : ℕ) (out : List ℕ) (r : Option Worked) (message : List ℕ) : Type 0 where
  pub exact : (t : Term) {next : ℕ} (ρ : Bound) → TermAt f at 8 (length ρ) t next → BoundAt out base ρ start
      → WorkedTo ρ t 0 next r message
