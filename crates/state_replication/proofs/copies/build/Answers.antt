-- `state_prefix::copies::build` meets its contract: a copy with the sender or the taker in it.
use Rattle.std.proofs.Common.{rules}
use Rattle.state_replication.proofs.Laws.Decided.{builders}
use Rattle.state_replication.proofs.copies.build.Goals as goal

pub returns-then-contains : goal.returns-then-contains
returns-then-contains c = search (rules, builders)

pub returns : goal.returns
returns c = search (rules, builders)
