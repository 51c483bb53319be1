-- `state_prefix::copies::finish` meets its contract: the thread after its copies.
use Rattle.std.proofs.Common.{rules}
use Rattle.state_progress.proofs.Laws.Progress.{extensions}
use Rattle.state_replication.proofs.Laws.Decided.{finishings}
use Rattle.state_replication.proofs.copies.finish.Goals as goal

pub returns-then-going-clause-finishes : goal.returns-then-going-clause-finishes
returns-then-going-clause-finishes c = search (rules, extensions, finishings)

pub returns-in-After-clause-finishes : goal.returns-in-After-clause-finishes
returns-in-After-clause-finishes c = search (rules, extensions, finishings)
