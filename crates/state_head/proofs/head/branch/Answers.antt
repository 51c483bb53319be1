-- `state_head::head::branch` meets its contract: one of the two processes is chosen.
use Rattle.std.proofs.Common.{rules}
use Rattle.state_head.proofs.Laws.HeadKinds.{ifs_down}
use Rattle.state_head.proofs.head.branch.Goals as goal

pub returns-clause-descends_if : goal.returns-clause-descends_if
returns-clause-descends_if c = search (rules, ifs_down)

pub returns-in_err-next-clause-descends_if : goal.returns-in_err-next-clause-descends_if
returns-in_err-next-clause-descends_if c = search (rules, ifs_down)
