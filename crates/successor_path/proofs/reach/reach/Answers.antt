-- `successor_path::reach::reach` meets its contract. The loop goes one node down at a turn.
use Rattle.std.proofs.Common.{rules}
use Rattle.buffer.proofs.Laws.Buffer.{unchanged}
use Rattle.successor_path.proofs.Laws.ReachKinds.{loops, goes_node}
use Rattle.state_progress.proofs.Laws.Progress.{to_ends}
use Rattle.successor_path.proofs.reach.reach.Goals as goal

pub loop-m-preserved : goal.loop-m-preserved
loop-m-preserved c = search (rules, unchanged, loops, goes_node, to_ends)

pub returns-clause-reaches : goal.returns-clause-reaches
returns-clause-reaches c = search (rules, loops, to_ends)
