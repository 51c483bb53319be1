-- `state_head::head::bound` meets its contract: one message more is bound, that of a term.
use Rattle.std.proofs.Common.{rules}
use Rattle.state_head.proofs.Laws.HeadKinds.{let_ends, lets_down}
use Rattle.state_head.proofs.head.bound.Goals as goal

pub returns-clause-descends_if : goal.returns-clause-descends_if
returns-clause-descends_if c = search (rules, let_ends, lets_down)

pub returns-in_err-next-clause-descends_if : goal.returns-in_err-next-clause-descends_if
returns-in_err-next-clause-descends_if c = search (rules, let_ends, lets_down)
