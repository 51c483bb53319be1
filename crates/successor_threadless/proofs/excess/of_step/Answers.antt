-- `successor_threadless::excess::of_step` meets its contract.
use Rattle.std.proofs.Common.{rules}
use Rattle.successor_threadless.proofs.Laws.Excess.{additions}
use Rattle.successor_threadless.proofs.excess.of_step.Goals as goal

pub returns-then-arity-eq0 : goal.returns-then-arity-eq0
returns-then-arity-eq0 c = search (rules, additions)

pub returns-in-Output : goal.returns-in-Output
returns-in-Output c = search (rules, additions)

pub returns-in-Input : goal.returns-in-Input
returns-in-Input c = search (rules, additions)

pub returns-else-arity-eq0 : goal.returns-else-arity-eq0
returns-else-arity-eq0 c = search (rules, additions)
