-- `successor_continuation::settled::behind_in` meets its contract.
use Rattle.std.proofs.Common.{rules}
use Rattle.state_progress.proofs.Laws.Progress.{extensions}
use Rattle.successor_continuation.proofs.Laws.Settled.{offers_settled}
use Rattle.successor_continuation.proofs.Laws.Counting.{frames}
use Rattle.successor_continuation.proofs.settled.behind_in.Goals as goal

pub returns-then-ends-clause-settles_offer_in : goal.returns-then-ends-clause-settles_offer_in
returns-then-ends-clause-settles_offer_in c = search (rules, extensions, offers_settled, frames)

pub returns-clause-settles_offer_in : goal.returns-clause-settles_offer_in
returns-clause-settles_offer_in c = search (rules, extensions, offers_settled, frames)
