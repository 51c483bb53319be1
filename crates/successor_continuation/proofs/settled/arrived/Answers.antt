-- `successor_continuation::settled::arrived` meets its contract.
use Rattle.std.proofs.Common.{rules}
use Rattle.state_progress.proofs.Laws.Progress.{extensions}
use Rattle.successor_continuation.proofs.Laws.Settled.{arrivals}
use Rattle.successor_continuation.proofs.Laws.Counting.{frames}
use Rattle.successor_continuation.proofs.settled.arrived.Goals as goal

pub returns-clause-settles_at : goal.returns-clause-settles_at
returns-clause-settles_at c = search (rules, extensions, arrivals, frames)
