-- `successor_continuation::counting::enter` meets its contract.
use Rattle.std.proofs.Common.{rules}
use Rattle.successor_continuation.proofs.Laws.Counting.{frames, entering}
use Rattle.successor_continuation.proofs.counting.enter.Goals as goal

pub returns-then-copy-eq1-clause-enters : goal.returns-then-copy-eq1-clause-enters
returns-then-copy-eq1-clause-enters c = search (rules, frames, entering)

pub returns-clause-enters : goal.returns-clause-enters
returns-clause-enters c = search (rules, frames, entering)
