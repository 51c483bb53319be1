-- What a step does to the threads that act ("Steps").
use mathlib.Core.Path.{◌≡◌}
use Prim.Native.Nat.{ℕ}
use borrow.Author.Tests.{eq-eqb, ne_eqb}
use Rattle.state_task.specs.declared.task.Task.TheVariants.{Build, BuildIn}
use Rattle.state_task.specs.declared.task.Plan.{Plan}
use Rattle.state_task.specs.declared.task.CopyAt.{CopyAt}
use Rattle.successor_continuation.specs.Rests.{step_copies}
use Rattle.successor_rebuild.specs.Tasks.{plan, silent_tasks, label_tasks, tasks_of}
use Rattle.step_label.specs.declared.step.Step.{Step}
use Rattle.step_label.specs.declared.step.Label.TheVariants.{Output, Input, Silent}
use Rattle.successor_rebuild.specs.declared.tasks.Tasks.{Tasks}

module _ (v : Step) (last k : ℕ) where
  pub tasks_two : {a b : Plan} → a ≡ plan v.sender.mark 0 0 v.taker.next 0 → b ≡ plan 0 v.taker.mark 0 0 last → v.arity ≡ 0
      → record { first = v.sender.at; task = Build a k; second = v.taker.at; other = Build b v.sender.next } ≡ silent_tasks v last k
  tasks_two sends takes e = rw (sends, takes, eq-eqb v.arity 0 e, silent_tasks)

  module _ {b : Plan} (still : b ≡ plan 0 0 0 0 0) where
    pub tasks_copies : {c : CopyAt} → c ≡ step_copies v → (v.arity ≡ 0 → ⊥) → record {
      first = v.sender.at;
      task = BuildIn (plan v.sender.mark v.taker.mark v.sender.next v.taker.next last) c k;
      second = v.sender.at;
      other = Build b k;
    } ≡ silent_tasks v last k
    tasks_copies copies e = rw (still, copies, ne_eqb v.arity 0 e, silent_tasks)

    pub tasks_output : {a : Plan} → a ≡ plan v.sender.mark 0 0 v.sender.next 0 → v.label ≡ Output
        → record { first = v.sender.at; task = Build a k; second = v.sender.at; other = Build b k } ≡ tasks_of v last k
    tasks_output sends e = rw (still, sends, e, label_tasks)

    pub tasks_input : {a : Plan} → a ≡ plan 0 v.taker.mark 0 0 v.taker.next → v.label ≡ Input
        → record { first = v.taker.at; task = Build a k; second = v.taker.at; other = Build b k } ≡ tasks_of v last k
    tasks_input takes e = rw (still, takes, e, label_tasks)

  pub tasks_silent : {r : Tasks} → v.label ≡ Silent → r ≡ silent_tasks v last k → r ≡ tasks_of v last k
  tasks_silent e f = rw (e, label_tasks) f

pub ruleset assignings = (tasks_two, tasks_copies, tasks_output, tasks_input, tasks_silent)
