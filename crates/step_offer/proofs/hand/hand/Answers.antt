-- `step_offer::hand::hand` meets its contract.
use Rattle.std.proofs.Common.{rules}
use Rattle.step_offer.proofs.Laws.Hand.{hands}
use Rattle.step_offer.proofs.hand.hand.Goals as goal

pub returns-then-out-from-clause-hands : goal.returns-then-out-from-clause-hands
returns-then-out-from-clause-hands c = search (rules, hands)

pub returns-clause-hands : goal.returns-clause-hands
returns-clause-hands c = search (rules, hands)
