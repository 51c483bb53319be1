-- What each task does at a repl thread, as the code decides it ("Steps").
use Rattle.std.specs.Prelude.{◌≡◌, List, ℕ, ◌+◌}
use Rattle.meaning.specs.Bytes.Process.{Process}
use Rattle.index_process.specs.Index.{InModel}
use Rattle.meaning.specs.Steps.State.{Bound, repl}
use Rattle.message_term.specs.Bound.{BoundTo}
use Rattle.state_record.specs.Record.{Standing}
use Rattle.state_progress.specs.TraversalResult.{Accumulated, TraversalResult, further}
use Rattle.state_progress.specs.Represented.{Represents, RepresentsResult}
use Rattle.state_task.specs.declared.opening.Own.{Own}
use Rattle.state_progress.specs.declared.progress.Progress.{Progress}
use Rattle.state_task.specs.Copies.{firstly, lastly}

-- The answer is the one of trees, whatever process stands behind the repl at a position.
pub record Decided (A : Type 0) (s : List ℕ) (at : ℕ) (f : Process → A) (r : A) : Type 0 where
  pub exact : (P : Process) {next : ℕ} → InModel s (at + 1) P next → r ≡ f P

-- Whatever repl thread has its process at the position at and its messages up to the position end, what is done with it comes first; or last.
pub record Begins (own : Own) (m : List ℕ) (end at : ℕ) (out : List ℕ) (now r : Progress) (after : List ℕ) : Type 0 where
  pub exact : (s : List ℕ) (ρ : Bound) (P : Process) (g : Accumulated) → BoundTo m 0 ρ end
      → Standing s (record { place = at; thread = repl ρ P }) → Represents s out now g → RepresentsResult s after r (firstly own at ρ P g)

pub record Finishes (own : Own) (m : List ℕ) (end at : ℕ) (out : List ℕ) (now r : Progress) (after : List ℕ) : Type 0 where
  pub exact : (s : List ℕ) (ρ : Bound) (P : Process) (c : TraversalResult) → BoundTo m 0 ρ end
      → Standing s (record { place = at; thread = repl ρ P }) → RepresentsResult s out now c
      → RepresentsResult s after r (further c (lastly own at ρ P))
