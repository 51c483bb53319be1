-- `state_prefix::copies::seek_in` meets its contract: an offer there, or on the way.
use Rattle.std.proofs.Common.{rules}
use Rattle.state_replication.proofs.Laws.Decided.{targets}
use Rattle.state_replication.proofs.copies.seek_in.Goals as goal

pub returns-then-at-mark : goal.returns-then-at-mark
returns-then-at-mark c = search (rules, targets)

pub returns : goal.returns
returns c = search (rules, targets)
