-- `step_offer::hand::one` meets its contract.
use Rattle.std.proofs.Common.{rules}
use Rattle.step_offer.proofs.Laws.Hand.{copyings}
use Rattle.step_offer.proofs.hand.one.Goals as goal

pub returns-clause-copies : goal.returns-clause-copies
returns-clause-copies c = search (rules, copyings)
