-- `successor_continuation::counting::count` meets its contract.
use Rattle.std.proofs.Common.{rules}
use Rattle.successor_continuation.proofs.Laws.Counting.{frames, thread_counted}
use Rattle.successor_continuation.proofs.Laws.Fixed.{fixed_ones}
use Rattle.successor_continuation.proofs.counting.count.Goals as goal

pub returns-in-Some-clause-counts : goal.returns-in-Some-clause-counts
returns-in-Some-clause-counts c = search (rules, frames, fixed_ones, thread_counted)

pub returns-clause-counts : goal.returns-clause-counts
returns-clause-counts c = search (rules, frames, fixed_ones, thread_counted)
