-- `successor_continuation::counting::arrive` meets its contract.
use Rattle.std.proofs.Common.{rules}
use Rattle.successor_continuation.proofs.Laws.Counting.{frames, arriving}
use Rattle.successor_continuation.proofs.counting.arrive.Goals as goal

pub returns-then-place-mark-clause-comes : goal.returns-then-place-mark-clause-comes
returns-then-place-mark-clause-comes c = search (rules, frames, arriving)

pub returns-clause-comes : goal.returns-clause-comes
returns-clause-comes c = search (rules, frames, arriving)
