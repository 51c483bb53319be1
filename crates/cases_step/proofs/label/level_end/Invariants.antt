-- `cases_step::label::level_end` meets its contract: a level ends within the labels, and what is left of them falls.
use Rattle.std.proofs.Common.{length, ◌+◌, ◌-◌, ◌≤◌}
use Rattle.cases_step.proofs.label.level_end.Given as goal

abbrev pub invariant-loop-first : goal.invariant-loop-first
invariant-loop-first l = l.i ≤ length l.labels + 4

abbrev pub decreases-loop-first : goal.decreases-loop-first
decreases-loop-first l = length l.labels + 4 - l.i
