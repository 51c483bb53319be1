-- `step_offer::pass::pass` meets its contract. The loop has gone over the records before the position.
use Rattle.step_offer.specs.Pass.{SeeksAlike}
use Rattle.std.proofs.Common.{◌-◌, ◌≤◌}
use Rattle.step_offer.specs.Seek.{starting_at}
use Rattle.step_offer.proofs.pass.pass.Given as goal

abbrev pub invariant-loop-i : goal.invariant-loop-i
invariant-loop-i l = SeeksAlike l.s l.argument l.at l.to l.quest l.skip l.out l.i (starting_at l.quest l.from) × (l.at ≤ l.i)

-- proposed from the loop's first test
abbrev pub decreases-loop-i : goal.decreases-loop-i
decreases-loop-i l = l.to - l.i
