-- `step_offer::pass::no_offer` meets its contract.
use Rattle.std.proofs.Common.{rules}
use Rattle.step_offer.proofs.Laws.Pass.{no_offers}
use Rattle.step_offer.proofs.Laws.Spent.{spent_or_not}
use Rattle.step_offer.proofs.pass.no_offer.Goals as goal

pub returns-then-matches : goal.returns-then-matches
returns-then-matches c = search (rules, spent_or_not)

pub returns-then-not-quest : goal.returns-then-not-quest
returns-then-not-quest c = search (rules, no_offers)

pub returns-else-not-quest : goal.returns-else-not-quest
returns-else-not-quest c = search (rules, no_offers)

pub returns : goal.returns
returns c = search (rules, no_offers)
