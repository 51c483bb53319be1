-- The path to a part of a process: its scope fits.
use Rattle.std.proofs.Common.{rules}
use Rattle.decode_slice.proofs.Laws.Scope.{scope_fits}
use Rattle.decode_slice.proofs.process.PathSort.to_part.Goals as goal

pub overflow_add-scope : goal.overflow_add-scope
overflow_add-scope c = search (rules, scope_fits)
