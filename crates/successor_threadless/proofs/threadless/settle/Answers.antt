-- `successor_threadless::threadless::settle` meets its contract.
use Rattle.std.proofs.Common.{rules}
use Rattle.state_progress.proofs.Laws.Progress.{to_ends}
use Rattle.successor_threadless.proofs.Laws.Threadless.{settlings}
use Rattle.successor_threadless.proofs.threadless.settle.Goals as goal

pub returns-in-Output-clause-settles : goal.returns-in-Output-clause-settles
returns-in-Output-clause-settles c = search (rules, to_ends, settlings)

pub returns-in-Input-clause-settles : goal.returns-in-Input-clause-settles
returns-in-Input-clause-settles c = search (rules, to_ends, settlings)
