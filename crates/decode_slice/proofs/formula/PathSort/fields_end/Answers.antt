-- The end of the terms of a formula's own, by its layout.
use Rattle.std.proofs.Common.{rules}
use Rattle.decode_slice.proofs.Laws.Room.{counted}
use Rattle.decode_slice.proofs.formula.PathSort.fields_end.Goals as goal

pub returns : goal.returns
returns c = search (rules, counted)
