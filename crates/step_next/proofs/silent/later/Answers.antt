-- `step_next::silent::later` meets its contract.
use Rattle.std.proofs.Common.{rules}
use Rattle.state_progress.proofs.Laws.Progress.{to_ends}
use Rattle.step_next.proofs.Laws.SilentLater.{laters}
use Rattle.step_next.proofs.silent.later.Goals as goal

pub returns-in-Some-clause-next_between : goal.returns-in-Some-clause-next_between
returns-in-Some-clause-next_between c = search (rules, to_ends, laters)

pub returns-clause-next_between : goal.returns-clause-next_between
returns-clause-next_between c = search (rules, to_ends, laters)
