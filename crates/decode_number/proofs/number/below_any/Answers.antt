-- `decode_number::number::below_any` meets its contract, by what the number was found to be.
use Rattle.std.proofs.Common.{rules}
use Rattle.decode_number.proofs.Laws.Bounded.{bounds}
use Rattle.decode_number.proofs.number.below_any.Goals as goal

pub returns-in-Ok : goal.returns-in-Ok
returns-in-Ok c = search (rules, bounds)

pub returns-in-Ok-2 : goal.returns-in-Ok-2
returns-in-Ok-2 c = search (rules, bounds)

pub returns-in-Err-Truncated : goal.returns-in-Err-Truncated
returns-in-Err-Truncated c = search (rules, bounds)

pub returns-in-Err-Malformed : goal.returns-in-Err-Malformed
returns-in-Err-Malformed c = search (rules, bounds)
