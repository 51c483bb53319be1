-- `state_task::task::opening` meets its contract, for each task.
use Rattle.std.proofs.Common.{rules}
use Rattle.state_task.proofs.Laws.Opening.{openings}
use Rattle.state_task.proofs.task.opening.Goals as goal

pub returns-in-Count : goal.returns-in-Count
returns-in-Count c = search (rules, openings)

pub returns-in-Judge : goal.returns-in-Judge
returns-in-Judge c = search (rules, openings)

pub returns-in-Settle : goal.returns-in-Settle
returns-in-Settle c = search (rules, openings)

pub returns-in-Seek : goal.returns-in-Seek
returns-in-Seek c = search (rules, openings)

pub returns-in-SeekIn : goal.returns-in-SeekIn
returns-in-SeekIn c = search (rules, openings)

pub returns-in-Find : goal.returns-in-Find
returns-in-Find c = search (rules, openings)

pub returns-in-Build : goal.returns-in-Build
returns-in-Build c = search (rules, openings)

pub returns-in-BuildIn : goal.returns-in-BuildIn
returns-in-BuildIn c = search (rules, openings)
