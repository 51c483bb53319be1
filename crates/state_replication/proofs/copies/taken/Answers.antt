-- `state_prefix::copies::taken` meets its contract: a copy with the taker in it.
use Rattle.std.proofs.Common.{rules}
use Rattle.state_replication.proofs.Laws.Decided.{builders}
use Rattle.state_replication.proofs.copies.taken.Goals as goal

pub returns-then-sender-eq0 : goal.returns-then-sender-eq0
returns-then-sender-eq0 c = search (rules, builders)

pub returns : goal.returns
returns c = search (rules, builders)
