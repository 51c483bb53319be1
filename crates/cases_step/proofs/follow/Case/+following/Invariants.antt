-- `cases_step::follow::Case::arrive`, `follow`, `follow_label` and `follow_steps` are safe and end: there are fewer levels left at each state
-- that is followed, four calls to a level; within a level the place of the label rises to its end.
use Rattle.std.proofs.Common.{length, ◌+◌, ◌*◌, ◌-◌, ◌≤◌}
use Rattle.cases_step.proofs.follow.Case.+following.Given as goal

abbrev pub decreases-arrive : goal.decreases-arrive
decreases-arrive g l = 4 * (16 - l.level.number) + 3

abbrev pub decreases-follow : goal.decreases-follow
decreases-follow g l = 4 * (16 - l.level.number) + 2

abbrev pub decreases-follow_label : goal.decreases-follow_label
decreases-follow_label g l = 4 * (16 - l.below.number) + 5

abbrev pub decreases-follow_steps : goal.decreases-follow_steps
decreases-follow_steps g l = 4 * (16 - l.level.number) + 4

abbrev pub invariant-follow-loop-at : goal.invariant-follow-loop-at
invariant-follow-loop-at g l = (l.at ≤ length l.self.labels.now + 4) × (l.end ≤ length l.self.labels.now)

abbrev pub decreases-follow-loop-at : goal.decreases-follow-loop-at
decreases-follow-loop-at g l = length l.self.labels.now + 4 - l.at
