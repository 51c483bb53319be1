-- `decode_slice::to_the_end` meets its contract.
use Rattle.std.proofs.Common.{rules}
use Rattle.decode_slice.proofs.Laws.Whole.{slices}
use Rattle.decode_slice.proofs.to_the_end.Goals as goal

pub returns-then-end-s : goal.returns-then-end-s
returns-then-end-s c = search (rules, slices)

pub returns : goal.returns
returns c = search (rules, slices)
