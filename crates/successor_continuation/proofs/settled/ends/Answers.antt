-- `successor_continuation::settled::ends` meets its contract.
use Rattle.std.proofs.Common.{rules}
use Rattle.successor_continuation.proofs.Laws.Settled.{nils}
use Rattle.successor_continuation.proofs.settled.ends.Goals as goal

pub returns-in-Ok-Nil : goal.returns-in-Ok-Nil
returns-in-Ok-Nil c = search (rules, nils)
