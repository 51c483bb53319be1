-- The functions of judging fall in formula nodes left on the path, nine calls to a node; the steps of a formula are a loop, in which what is
-- left of the budget falls.
use Rattle.truth_judge.proofs.Laws.Loop.{Looping}
use Rattle.std.proofs.Common.{◌+◌, ◌*◌}
use Rattle.truth_judge.proofs.+judging.Given as goal

abbrev pub decreases-judge::conjunction : goal.decreases-judge::conjunction
decreases-judge::conjunction l = 9 * l.depth + 9

abbrev pub decreases-judge::judge : goal.decreases-judge::judge
decreases-judge::judge l = 9 * l.depth + 7

abbrev pub decreases-judge::negation : goal.decreases-judge::negation
decreases-judge::negation l = 9 * l.depth + 8

abbrev pub decreases-judge::node : goal.decreases-judge::node
decreases-judge::node l = 9 * l.depth + 14

abbrev pub decreases-judge::second : goal.decreases-judge::second
decreases-judge::second l = 9 * l.depth + 8

abbrev pub decreases-judge::visit : goal.decreases-judge::visit
decreases-judge::visit l = 9 * l.depth + 6

abbrev pub decreases-stepping::count : goal.decreases-stepping::count
decreases-stepping::count l = 9 * l.depth + 9

abbrev pub decreases-stepping::judge_body : goal.decreases-stepping::judge_body
decreases-stepping::judge_body l = 9 * l.depth + 8

abbrev pub decreases-stepping::step : goal.decreases-stepping::step
decreases-stepping::step l = 9 * l.depth + 13

abbrev pub decreases-stepping::steps : goal.decreases-stepping::steps
decreases-stepping::steps l = 9 * l.depth + 12

abbrev pub decreases-stepping::turn : goal.decreases-stepping::turn
decreases-stepping::turn l = 9 * l.depth + 10

abbrev pub decreases-stepping::turns : goal.decreases-stepping::turns
decreases-stepping::turns l = 9 * l.depth + 11

abbrev pub invariant-stepping::turns-loop-turned : goal.invariant-stepping::turns-loop-turned
invariant-stepping::turns-loop-turned l =
    Looping l.stepless l.initial.current l.s l.f l.body l.depth l.state l.initial.from.label l.channel l.taken l.initial.m l.initial.out l.left
    l.m l.out l.buffered l.message l.from l.sum l.current

abbrev pub decreases-stepping::turns-loop-turned : goal.decreases-stepping::turns-loop-turned
decreases-stepping::turns-loop-turned l = l.sum.left
