-- `state_prefix::copies::passes` meets its contract: whether a repl thread is passed.
use Rattle.std.proofs.Common.{rules}
use Rattle.state_replication.proofs.Laws.Decided.{passings}
use Rattle.state_replication.proofs.copies.passes.Goals as goal

pub returns-then-at-mark : goal.returns-then-at-mark
returns-then-at-mark c = search (rules, passings)

pub returns-then-at-mark-2 : goal.returns-then-at-mark-2
returns-then-at-mark-2 c = search (rules, passings)

pub returns-else-at-mark-2 : goal.returns-else-at-mark-2
returns-else-at-mark-2 c = search (rules, passings)
