-- `step_offer::pass::skipped` meets its contract.
use Rattle.std.proofs.Common.{rules}
use Rattle.step_offer.proofs.Laws.SeeksAlike.{skips}
use Rattle.step_offer.proofs.pass.skipped.Goals as goal

pub returns-then-at-skip : goal.returns-then-at-skip
returns-then-at-skip c = search (rules, skips)

pub returns-else-at-skip : goal.returns-else-at-skip
returns-else-at-skip c = search (rules, skips)
