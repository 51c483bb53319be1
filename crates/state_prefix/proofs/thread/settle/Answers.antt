-- `state_prefix::thread::settle` meets its contract: it is written, and then judged.
use Rattle.std.proofs.Common.{rules}
use Rattle.state_progress.proofs.Laws.Progress.{extensions}
use Rattle.state_prefix.proofs.Laws.Thread.{settlings}
use Rattle.state_prefix.proofs.thread.settle.Goals as goal

pub returns-then-going-clause-settles : goal.returns-then-going-clause-settles
returns-then-going-clause-settles c = search (rules, extensions, settlings)

pub returns-clause-settles : goal.returns-clause-settles
returns-clause-settles c = search (rules, extensions, settlings)
