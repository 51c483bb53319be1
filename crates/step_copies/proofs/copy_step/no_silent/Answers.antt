-- `step_copies::copy_step::no_silent` meets its contract.
use Rattle.std.proofs.Common.{rules}
use Rattle.step_copies.proofs.Laws.NoSilent.{no_silents}
use Rattle.step_copies.proofs.copy_step.no_silent.Goals as goal

pub returns-then-last-eq0 : goal.returns-then-last-eq0
returns-then-last-eq0 c = search (rules, no_silents)

pub returns-else-last-eq0 : goal.returns-else-last-eq0
returns-else-last-eq0 c = search (rules, no_silents)
