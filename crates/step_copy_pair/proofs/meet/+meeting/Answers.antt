-- `step_copy_pair::meet::meet` and `onward` meet their contracts. The measure is how many positions of the model come after the sender.
use Rattle.std.proofs.Common.{rules}
use Rattle.step_copy_pair.proofs.Laws.Meet.{meetings, onwards}
use Rattle.state_progress.proofs.Laws.Progress.{to_ends}
use Rattle.step_copy_pair.proofs.meet.+meeting.Goals as goal

pub meet-returns-then-going-clause-meets : goal.meet-returns-then-going-clause-meets
meet-returns-then-going-clause-meets t c = search (rules, meetings, to_ends, onwards)

pub meet-returns-then-mark-x-clause-meets : goal.meet-returns-then-mark-x-clause-meets
meet-returns-then-mark-x-clause-meets t c = search (rules, meetings, to_ends, onwards)

pub meet-returns-then-s-mark-clause-meets : goal.meet-returns-then-s-mark-clause-meets
meet-returns-then-s-mark-clause-meets t c = search (rules, meetings, to_ends, onwards)

pub meet-returns-clause-meets : goal.meet-returns-clause-meets
meet-returns-clause-meets t c = search (rules, meetings, to_ends, onwards)

pub onward-returns-in-Some-clause-next_pair : goal.onward-returns-in-Some-clause-next_pair
onward-returns-in-Some-clause-next_pair t c = search (rules, meetings, to_ends, onwards)

pub onward-returns-clause-next_pair : goal.onward-returns-clause-next_pair
onward-returns-clause-next_pair t c = search (rules, meetings, to_ends, onwards)
