-- What a step does to the threads that act ("Steps").
use Rattle.std.specs.Prelude.{Bool, true, false, ℕ, eqb}
use Rattle.state_task.specs.declared.task.Task.TheVariants.{Build, BuildIn}
use Rattle.state_task.specs.declared.task.Plan.{Plan}
use Rattle.step_label.specs.declared.step.Step as step
use Rattle.step_label.specs.declared.step.Label.{Label}
use Rattle.step_label.specs.declared.step.Label.TheVariants.{Output, Input, Silent}
use Rattle.successor_rebuild.specs.declared.tasks.Tasks.{Tasks}

-- What each thread that acts is done to, by the record where it stands.
abbrev pub plan : (sender taker second rest last : ℕ) → Plan
plan sender taker second rest last = record { sender = sender; taker = taker; second = second; rest = rest; last = last }

abbrev pub silent_tasks : step.Step → (last k : ℕ) → Tasks
silent_tasks v last k =
    elim (eqb v.arity 0) [
      | true ↦ record {
        first = v.sender.at;
        task = Build (plan v.sender.mark 0 0 v.taker.next 0) k;
        second = v.taker.at;
        other = Build (plan 0 v.taker.mark 0 0 last) v.sender.next;
      }
      | false ↦ record {
        first = v.sender.at;
        task = BuildIn (plan v.sender.mark v.taker.mark v.sender.next v.taker.next last)
            (record { place = v.copy; arity = v.arity; second = v.sender.next }) k;
        second = v.sender.at;
        other = Build (plan 0 0 0 0 0) k;
      }
    ]

abbrev pub label_tasks : Label → step.Step → (last k : ℕ) → Tasks
label_tasks Output v last k = record {
  first = v.sender.at;
  task = Build (plan v.sender.mark 0 0 v.sender.next 0) k;
  second = v.sender.at;
  other = Build (plan 0 0 0 0 0) k;
}
label_tasks Input v last k = record {
  first = v.taker.at;
  task = Build (plan 0 v.taker.mark 0 0 v.taker.next) k;
  second = v.taker.at;
  other = Build (plan 0 0 0 0 0) k;
}
label_tasks Silent v last k = silent_tasks v last k

abbrev pub tasks_of : step.Step → (last k : ℕ) → Tasks
tasks_of v last k = label_tasks v.label v last k

-- The message of an output becomes an alias.
abbrev pub sends : Label → Bool
sends Output = true
sends Input = false
sends Silent = false
