-- `state_prefix::copies::find` meets its contract: the next repl thread.
use Rattle.std.proofs.Common.{rules}
use Rattle.state_replication.proofs.Laws.Decided.{finds}
use Rattle.state_replication.proofs.copies.find.Goals as goal

pub returns-then-passes : goal.returns-then-passes
returns-then-passes c = search (rules, finds)

pub returns-then-at-mark : goal.returns-then-at-mark
returns-then-at-mark c = search (rules, finds)

pub returns : goal.returns
returns c = search (rules, finds)
