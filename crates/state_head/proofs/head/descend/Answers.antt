-- `state_head::head::descend` meets its contract. The loop goes one node down at a turn.
use Rattle.std.proofs.Common.{rules}
use Rattle.buffer.proofs.Laws.Buffer.{unchanged}
use Rattle.state_head.proofs.Laws.Head.{loops, rooms}
use Rattle.state_progress.proofs.Laws.Progress.{to_ends}
use Rattle.state_head.proofs.head.descend.Goals as goal

pub loop-m-preserved : goal.loop-m-preserved
loop-m-preserved c = search (rules, unchanged, loops, rooms, to_ends)

pub returns-in_err-head-2-clause-descends : goal.returns-in_err-head-2-clause-descends
returns-in_err-head-2-clause-descends c = search (rules, unchanged, loops, rooms, to_ends)
