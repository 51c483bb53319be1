-- `step_next::silent::next` meets its contract.
use Rattle.std.proofs.Common.{rules}
use Rattle.step_next.proofs.Laws.Silent.{silents}
use Rattle.step_next.proofs.silent.next.Goals as goal

pub returns-then-arity-eq0-clause-next_silent : goal.returns-then-arity-eq0-clause-next_silent
returns-then-arity-eq0-clause-next_silent c = search (rules, silents)

pub returns-clause-next_silent : goal.returns-clause-next_silent
returns-clause-next_silent c = search (rules, silents)
