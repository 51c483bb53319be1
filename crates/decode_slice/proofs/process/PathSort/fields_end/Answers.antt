-- The end of the terms of a process's own, by its layout.
use Rattle.std.proofs.Common.{rules}
use Rattle.decode_slice.proofs.Laws.Room.{counted}
use Rattle.decode_slice.proofs.process.PathSort.fields_end.Goals as goal

pub returns : goal.returns
returns c = search (rules, counted)
