-- `step_between::between::between` and `onward` meet their contracts. The measure is how much is left of the records and of the model in the first of
-- them.
use Rattle.std.proofs.Common.{rules}
use Rattle.state_progress.proofs.Laws.Progress.{to_ends}
use Rattle.step_between.proofs.Laws.BetweenOnward.{betweens, onward_found, onward_none}
use Rattle.step_between.proofs.between.+pairing.Goals as goal

pub between-returns-then-follows-clause-betweens :
    goal.between-returns-then-follows-clause-betweens
between-returns-then-follows-clause-betweens t c = search (rules, to_ends, betweens)

pub between-returns-clause-betweens : goal.between-returns-clause-betweens
between-returns-clause-betweens t c = search (rules, to_ends, betweens)

pub onward-returns-in-Some-clause-next_meeting : goal.onward-returns-in-Some-clause-next_meeting
onward-returns-in-Some-clause-next_meeting t c = search (rules, to_ends, onward_found)

pub onward-returns-clause-next_meeting : goal.onward-returns-clause-next_meeting
onward-returns-clause-next_meeting t c = search (rules, to_ends, onward_none)
