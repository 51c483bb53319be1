-- `step_offer::pass::pass` meets its contract. The loop has gone over the records before the position.
use Rattle.std.proofs.Common.{rules}
use Rattle.step_offer.proofs.Laws.SeeksAlike.{onwards}
use Rattle.step_offer.proofs.pass.pass.Goals as goal

pub loop-i-preserved : goal.loop-i-preserved
loop-i-preserved c = search (rules, onwards)
