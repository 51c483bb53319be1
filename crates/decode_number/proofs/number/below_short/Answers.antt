-- `decode_number::number::below_short` meets its contract: a byte below the limit is the number, and else the number is read.
use Rattle.std.proofs.Common.{rules}
use Rattle.decode_number.proofs.Laws.Bounded.{bounds}
use Rattle.decode_number.proofs.number.below_short.Goals as goal

pub returns-then-s-at : goal.returns-then-s-at
returns-then-s-at c = search (rules, bounds)

pub returns-then-first-limit : goal.returns-then-first-limit
returns-then-first-limit c = search (rules, bounds)
