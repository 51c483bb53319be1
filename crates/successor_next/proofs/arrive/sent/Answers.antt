-- `successor_next::arrive::sent` meets its contract.
use Rattle.std.proofs.Common.{rules}
use Rattle.state_progress.proofs.Laws.Progress.{to_ends}
use Rattle.successor_next.proofs.Laws.Arrive.{leavings}
use Rattle.successor_next.proofs.arrive.sent.Goals as goal

pub returns-then-message-size-clause-leaves_by_sending :
    goal.returns-then-message-size-clause-leaves_by_sending
returns-then-message-size-clause-leaves_by_sending c = search (rules, to_ends, leavings)

pub returns-clause-leaves_by_sending : goal.returns-clause-leaves_by_sending
returns-clause-leaves_by_sending c = search (rules, to_ends, leavings)
