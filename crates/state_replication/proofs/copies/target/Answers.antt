-- `state_prefix::copies::target` meets its contract: the copies of the thread that is meant.
use Rattle.std.proofs.Common.{rules}
use Rattle.state_replication.proofs.Laws.Decided.{targets}
use Rattle.state_replication.proofs.copies.target.Goals as goal

pub returns-then-arity-eq0 : goal.returns-then-arity-eq0
returns-then-arity-eq0 c = search (rules, targets)

pub returns-then-arity-eq1 : goal.returns-then-arity-eq1
returns-then-arity-eq1 c = search (rules, targets)

pub returns : goal.returns
returns c = search (rules, targets)
