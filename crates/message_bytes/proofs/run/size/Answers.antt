-- `message_bytes::run::size` meets its contract. The loop knows how many parts are left, and that they are few enough to count.
use Rattle.std.proofs.Common.{rules}
use Rattle.message_bytes.proofs.Laws.Traverse.{sizes, two_at_most}
use Rattle.message_bytes.proofs.run.size.Goals as goal

pub returns-then-m-nodes-clause-size_of : goal.returns-then-m-nodes-clause-size_of
returns-then-m-nodes-clause-size_of c = search (rules, sizes)

pub overflow_add-left : goal.overflow_add-left
overflow_add-left c = search (rules, sizes, two_at_most)

pub loop-left-preserved : goal.loop-left-preserved
loop-left-preserved c = search (rules, sizes, two_at_most)

pub returns-clause-size_of : goal.returns-clause-size_of
returns-clause-size_of c = search (rules, sizes, two_at_most)
