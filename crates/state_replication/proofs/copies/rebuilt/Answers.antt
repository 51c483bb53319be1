-- `state_prefix::copies::rebuilt` meets its contract: what is left of the copies of the thread that is meant.
use Rattle.std.proofs.Common.{rules}
use Rattle.state_replication.proofs.Laws.Decided.{rebuildings}
use Rattle.state_replication.proofs.copies.rebuilt.Goals as goal

pub returns-then-arity-eq2 : goal.returns-then-arity-eq2
returns-then-arity-eq2 c = search (rules, rebuildings)

pub returns : goal.returns
returns c = search (rules, rebuildings)
