-- `successor_continuation::counting::arrive_in` meets its contract.
use Rattle.std.proofs.Common.{rules}
use Rattle.successor_continuation.proofs.Laws.Counting.{frames, copy_arrives}
use Rattle.successor_continuation.proofs.counting.arrive_in.Goals as goal

pub returns-clause-comes_in : goal.returns-clause-comes_in
returns-clause-comes_in c = search (rules, frames, copy_arrives)
