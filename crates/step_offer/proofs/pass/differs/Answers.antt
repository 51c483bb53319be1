-- `step_offer::pass::differs` meets its contract.
use Rattle.std.proofs.Common.{rules}
use Rattle.step_offer.proofs.Laws.Pass.{differences}
use Rattle.step_offer.proofs.pass.differs.Goals as goal

pub returns-then-argument-ne2 : goal.returns-then-argument-ne2
returns-then-argument-ne2 c = search (rules, differences)

pub returns-else-argument-ne2 : goal.returns-else-argument-ne2
returns-else-argument-ne2 c = search (rules, differences)
