-- `state_prefix::copies::within` meets its contract: a copy of a thread that has a mark in it.
use Rattle.std.proofs.Common.{rules}
use Rattle.state_replication.proofs.Laws.Decided.{withins}
use Rattle.state_replication.proofs.copies.within.Goals as goal

pub returns-then-contains : goal.returns-then-contains
returns-then-contains c = search (rules, withins)

pub returns : goal.returns
returns c = search (rules, withins)
