-- A thread that is written into the state ("Steps").
use Rattle.std.specs.Prelude.{List, ℕ}
use Rattle.meaning.specs.Steps.State.{Thread}
use Rattle.message_term.specs.Bound.{BoundTo}
use Rattle.state_record.specs.Record.{Standing, bound_of}
use Rattle.state_progress.specs.TraversalResult.{Accumulated, TraversalResult, further, push}
use Rattle.state_progress.specs.Represented.{Represents, RepresentsResult}
use Rattle.state_progress.specs.declared.progress.Progress.{Progress}

-- Whatever thread has its process at the position place and its messages up to the position end, it is written; and so it is after what
-- else is left of it.
pub record Pushes (m : List ℕ) (end place : ℕ) (out : List ℕ) (now r : Progress) (after : List ℕ) : Type 0 where
  pub exact : (s : List ℕ) (t : Thread) (g : Accumulated) → BoundTo m 0 (bound_of t) end → Standing s (record { place = place; thread = t })
      → Represents s out now g → RepresentsResult s after r (push place t g)

pub record Keeps (m : List ℕ) (end place : ℕ) (out : List ℕ) (now r : Progress) (after : List ℕ) : Type 0 where
  pub exact : (s : List ℕ) (t : Thread) (c : TraversalResult) → BoundTo m 0 (bound_of t) end → Standing s (record { place = place; thread = t })
      → RepresentsResult s out now c → RepresentsResult s after r (further c (push place t))
