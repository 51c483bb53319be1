-- `successor_continuation::settled::behind` meets its contract.
use Rattle.std.proofs.Common.{rules}
use Rattle.state_progress.proofs.Laws.Progress.{extensions}
use Rattle.successor_continuation.proofs.Laws.Settled.{offers_settled}
use Rattle.successor_continuation.proofs.Laws.Counting.{frames}
use Rattle.successor_continuation.proofs.settled.behind.Goals as goal

pub returns-then-ends-clause-settles_offer : goal.returns-then-ends-clause-settles_offer
returns-then-ends-clause-settles_offer c = search (rules, extensions, offers_settled, frames)

pub returns-clause-settles_offer : goal.returns-clause-settles_offer
returns-clause-settles_offer c = search (rules, extensions, offers_settled, frames)
