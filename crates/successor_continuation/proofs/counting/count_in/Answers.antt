-- `successor_continuation::counting::count_in` meets its contract.
use Rattle.std.proofs.Common.{rules}
use Rattle.successor_continuation.proofs.Laws.Counting.{frames, copy_counted}
use Rattle.successor_continuation.proofs.Laws.Fixed.{fixed_ones}
use Rattle.successor_continuation.proofs.counting.count_in.Goals as goal

pub returns-in-Some-clause-counts_in : goal.returns-in-Some-clause-counts_in
returns-in-Some-clause-counts_in c = search (rules, frames, fixed_ones, copy_counted)

pub returns-clause-counts_in : goal.returns-clause-counts_in
returns-clause-counts_in c = search (rules, frames, fixed_ones, copy_counted)
