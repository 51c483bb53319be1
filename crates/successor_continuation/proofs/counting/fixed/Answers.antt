-- `successor_continuation::counting::fixed` meets its contract.
use Rattle.std.proofs.Common.{rules}
use Rattle.successor_continuation.proofs.Laws.Fixed.{fixed_ones}
use Rattle.successor_continuation.proofs.counting.fixed.Goals as goal

pub returns : goal.returns
returns c = search (rules, fixed_ones)
