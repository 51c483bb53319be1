-- `successor_threadless::threadless::settle_both` meets its contract.
use Rattle.std.proofs.Common.{rules}
use Rattle.state_progress.proofs.Laws.Progress.{to_ends}
use Rattle.successor_threadless.proofs.Laws.Threadless.{both_behind, boths}
use Rattle.successor_threadless.proofs.threadless.settle_both.Goals as goal

pub returns-then-arity-eq0-clause-written_from_2 :
    goal.returns-then-arity-eq0-clause-written_from_2
returns-then-arity-eq0-clause-written_from_2 c = search (rules, to_ends, both_behind, boths)

pub returns-then-arity-eq0-clause-settles_both : goal.returns-then-arity-eq0-clause-settles_both
returns-then-arity-eq0-clause-settles_both c = search (rules, to_ends, boths)

pub returns-clause-written_from_2 : goal.returns-clause-written_from_2
returns-clause-written_from_2 c = search (rules, to_ends, both_behind, boths)

pub returns-clause-settles_both : goal.returns-clause-settles_both
returns-clause-settles_both c = search (rules, to_ends, boths)
