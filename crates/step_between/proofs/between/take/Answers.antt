-- `step_between::between::take` meets its contract.
use Rattle.std.proofs.Common.{rules}
use Rattle.state_progress.proofs.Laws.Progress.{to_ends}
use Rattle.step_between.proofs.Laws.Between.{takings}
use Rattle.step_between.proofs.between.take.Goals as goal

pub returns-then-found-eq0-clause-takes : goal.returns-then-found-eq0-clause-takes
returns-then-found-eq0-clause-takes c = search (rules, to_ends, takings)

pub returns-clause-takes : goal.returns-clause-takes
returns-clause-takes c = search (rules, to_ends, takings)
