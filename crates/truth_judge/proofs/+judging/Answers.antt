-- The functions of judging meet their contracts: a visit, the formula by its kind, and the turns of a step formula.
use Rattle.std.proofs.Common.{rules}
use Rattle.truth_judge.proofs.Laws.Visit.{judgings, visitings, kinds, sides}
use Rattle.truth_judge.proofs.Laws.Body.{bodies}
use Rattle.truth_judge.proofs.Laws.Turn.{turn_none, turn_by}
use Rattle.truth_judge.proofs.Laws.Loop.{looping_falls, loopings, steps_memo}
use Rattle.truth_judge.proofs.Laws.Step.{steppings}
use Rattle.truth_judge.proofs.+judging.Goals as goal

pub judge::conjunction-returns-clause-conjoins :
    goal.judge::conjunction-returns-clause-conjoins
judge::conjunction-returns-clause-conjoins t c = search (rules, sides)

pub judge::conjunction-returns-in_err-first-clause-conjoins :
    goal.judge::conjunction-returns-in_err-first-clause-conjoins
judge::conjunction-returns-in_err-first-clause-conjoins t c = search (rules, sides)

pub judge::judge-returns-in_err-left-clause-judges :
    goal.judge::judge-returns-in_err-left-clause-judges
judge::judge-returns-in_err-left-clause-judges t c = search (rules, judgings)

pub judge::judge-returns-clause-judges : goal.judge::judge-returns-clause-judges
judge::judge-returns-clause-judges t c = search (rules, judgings)

pub judge::judge-returns-in_default-clause-judges :
    goal.judge::judge-returns-in_default-clause-judges
judge::judge-returns-in_default-clause-judges t c = search (rules, judgings)

pub judge::negation-returns-clause-negates :
    goal.judge::negation-returns-clause-negates
judge::negation-returns-clause-negates t c = search (rules, sides)

pub judge::negation-returns-in_err-judged-clause-negates :
    goal.judge::negation-returns-in_err-judged-clause-negates
judge::negation-returns-in_err-judged-clause-negates t c = search (rules, sides)

pub judge::node-returns-in-Ok-Equal-clause-visits :
    goal.judge::node-returns-in-Ok-Equal-clause-visits
judge::node-returns-in-Ok-Equal-clause-visits t c = search (rules, kinds)

pub judge::node-returns-in-Ok-Not-clause-visits :
    goal.judge::node-returns-in-Ok-Not-clause-visits
judge::node-returns-in-Ok-Not-clause-visits t c = search (rules, kinds)

pub judge::node-returns-in-Ok-And-clause-visits :
    goal.judge::node-returns-in-Ok-And-clause-visits
judge::node-returns-in-Ok-And-clause-visits t c = search (rules, kinds)

pub judge::node-returns-in-Ok-clause-visits : goal.judge::node-returns-in-Ok-clause-visits
judge::node-returns-in-Ok-clause-visits t c = search (rules, c.in-Ok.ensures, kinds)

pub judge::node-returns-in-Err-clause-visits : goal.judge::node-returns-in-Err-clause-visits
judge::node-returns-in-Err-clause-visits t c = search (rules, kinds)

pub judge::second-returns-clause-seconds : goal.judge::second-returns-clause-seconds
judge::second-returns-clause-seconds t c = search (rules, sides)

pub judge::second-returns-in_err-second-clause-seconds :
    goal.judge::second-returns-in_err-second-clause-seconds
judge::second-returns-in_err-second-clause-seconds t c = search (rules, sides)

pub judge::visit-returns-then-depth-eq0-clause-visits :
    goal.judge::visit-returns-then-depth-eq0-clause-visits
judge::visit-returns-then-depth-eq0-clause-visits t c = search (rules, visitings)

pub judge::visit-returns-then-f-at-clause-visits : goal.judge::visit-returns-then-f-at-clause-visits
judge::visit-returns-then-f-at-clause-visits t c = search (rules, visitings)

pub judge::visit-returns-clause-visits : goal.judge::visit-returns-clause-visits
judge::visit-returns-clause-visits t c = search (rules, visitings)

pub stepping::judge_body-returns-in-Each-clause-judges_body :
    goal.stepping::judge_body-returns-in-Each-clause-judges_body
stepping::judge_body-returns-in-Each-clause-judges_body t c = search (rules, bodies)

pub stepping::judge_body-returns : goal.stepping::judge_body-returns
stepping::judge_body-returns t c = search (rules, bodies)

pub stepping::step-returns-clause-stepped : goal.stepping::step-returns-clause-stepped
stepping::step-returns-clause-stepped t c = search (rules, steppings)

pub stepping::step-returns-in_default-clause-stepped :
    goal.stepping::step-returns-in_default-clause-stepped
stepping::step-returns-in_default-clause-stepped t c = search (rules, steppings)

pub stepping::steps-returns-clause-all_steps : goal.stepping::steps-returns-clause-all_steps
stepping::steps-returns-clause-all_steps t c = search (rules, steps_memo)

pub stepping::turn-returns-in-Some-clause-turns : goal.stepping::turn-returns-in-Some-clause-turns
stepping::turn-returns-in-Some-clause-turns t c =
    let next = c.next.ensures in
    turn_by next.arrives next.written_from_2 c.in-Some.is next.written_from c.count.ensures.counts

pub stepping::turn-returns-in-None-clause-turns : goal.stepping::turn-returns-in-None-clause-turns
stepping::turn-returns-in-None-clause-turns t c = search (rules, turn_none)

pub stepping::turns-loop-turned-init : goal.stepping::turns-loop-turned-init
stepping::turns-loop-turned-init t c = search (rules, loopings)

pub stepping::turns-loop-turned-smaller : goal.stepping::turns-loop-turned-smaller
stepping::turns-loop-turned-smaller t c = search (rules, looping_falls)

pub stepping::turns-loop-turned-preserved : goal.stepping::turns-loop-turned-preserved
stepping::turns-loop-turned-preserved t c = search (rules, loopings)

pub stepping::turns-returns-in-Break-clause-less : goal.stepping::turns-returns-in-Break-clause-less
stepping::turns-returns-in-Break-clause-less t c = search (rules, loopings)

pub stepping::turns-returns-in-Break-clause-all_turns :
    goal.stepping::turns-returns-in-Break-clause-all_turns
stepping::turns-returns-in-Break-clause-all_turns t c = search (rules, loopings)
