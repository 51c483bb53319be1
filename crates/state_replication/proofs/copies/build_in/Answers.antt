-- `state_prefix::copies::build_in` meets its contract: what is left of them, or on the way.
use Rattle.std.proofs.Common.{rules}
use Rattle.state_replication.proofs.Laws.Decided.{rebuildings}
use Rattle.state_replication.proofs.copies.build_in.Goals as goal

pub returns-then-at-mark : goal.returns-then-at-mark
returns-then-at-mark c = search (rules, rebuildings)

pub returns : goal.returns
returns c = search (rules, rebuildings)
