-- `decode_number::number::read` meets its contract: value and end say what the number is, or why it is refused.
use Rattle.std.proofs.Common.{rules}
use Rattle.decode_number.proofs.Laws.Decoding.{readings}
use Rattle.decode_number.proofs.number.read.Goals as goal

pub returns-then-end-at : goal.returns-then-end-at
returns-then-end-at c = search (rules, readings)

pub returns-then-value-ge-TWO_BYTES : goal.returns-then-value-ge-TWO_BYTES
returns-then-value-ge-TWO_BYTES c = search (rules, readings)

pub returns-then-end-at-2 : goal.returns-then-end-at-2
returns-then-end-at-2 c = search (rules, readings)

pub returns : goal.returns
returns c = search (rules, readings)
