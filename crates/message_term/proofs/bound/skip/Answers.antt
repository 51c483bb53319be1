-- `message_term::bound::skip` meets its contract. The loop passes one entry at a turn.
use Rattle.std.proofs.Common.{rules}
use Rattle.message_term.proofs.Laws.Bound.{entries}
use Rattle.message_term.proofs.bound.skip.Goals as goal

pub returns-then-b-at-clause-begins : goal.returns-then-b-at-clause-begins
returns-then-b-at-clause-begins c = search (rules, entries)

pub loop-preserved : goal.loop-preserved
loop-preserved c = search (rules, entries)

pub returns-clause-begins : goal.returns-clause-begins
returns-clause-begins c = search (rules, entries)
