-- `state_record::record::nodes` meets its contract. The loop passes one entry at a turn.
use Rattle.std.proofs.Common.{rules}
use Rattle.state_record.proofs.Laws.Record.{sums}
use Rattle.state_record.proofs.record.nodes.Goals as goal

pub loop-at-preserved : goal.loop-at-preserved
loop-at-preserved c = search (rules, sums)

pub returns-clause-nodes_of : goal.returns-clause-nodes_of
returns-clause-nodes_of c = search (rules, sums)
