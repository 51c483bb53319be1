-- `step_next::next::next` meets its contract.
use Rattle.std.proofs.Common.{rules}
use Rattle.step_next.proofs.Laws.Next.{nexts}
use Rattle.step_next.proofs.next.next.Goals as goal

pub returns-in-Output : goal.returns-in-Output
returns-in-Output c = search (rules, nexts)

pub returns-in-Silent-clause-nexts : goal.returns-in-Silent-clause-nexts
returns-in-Silent-clause-nexts c = search (rules, nexts)
