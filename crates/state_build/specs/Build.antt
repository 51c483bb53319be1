-- What is left of the copies of a repl thread by the traversal that builds ("Steps").
use Rattle.std.specs.Prelude.{List, ℕ}
use Rattle.meaning.specs.Messages.Term.{Message}
use Rattle.meaning.specs.Bytes.Process.{Process}
use Rattle.meaning.specs.Steps.State.{Bound}
use Rattle.state_progress.specs.TraversalResult.{Accumulated}
use Rattle.state_progress.specs.Represented.{Represents, RepresentsResult}
use Rattle.state_progress.specs.declared.progress.Progress.{Progress}
use Rattle.state_task.specs.Machine.{built_copy}
use Rattle.state_task.specs.declared.task.Plan.{Plan}
use Rattle.state_task.specs.declared.task.Task.TheVariants.{Build}
use Rattle.state_head.specs.Traverse.{Ready, copy_of}

-- Whatever repl thread stands there, the answer and the bytes show what a plan leaves of its copy, copies opening at k.
pub record OpensBuilt (b : Plan) (k : ℕ) (s argument : List ℕ) (at left : ℕ) (m : List ℕ) (end : ℕ) (out : List ℕ) (now r : Progress)
    (after : List ℕ) : Type 0 where
  pub exact : (P : Process) (x : Message) (ρ : Bound) (g : Accumulated) → Ready s argument at left m end (Build b k) (Process.repl P) x ρ g
      → Represents s out now g → RepresentsResult s after r (built_copy b k at P (copy_of at P x ρ) g)
