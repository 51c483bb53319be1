-- `state_prefix::copies::seek` meets its contract: an offer of a copy.
use Rattle.std.proofs.Common.{rules}
use Rattle.state_replication.proofs.Laws.Decided.{seekings}
use Rattle.state_replication.proofs.copies.seek.Goals as goal

pub returns-then-contains : goal.returns-then-contains
returns-then-contains c = search (rules, seekings)

pub returns : goal.returns
returns c = search (rules, seekings)
