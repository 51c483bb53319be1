-- `successor_prefix::halves::halve` meets its contract.
use Rattle.std.proofs.Common.{rules}
use Rattle.successor_prefix.proofs.Laws.Halves.{halving}
use Rattle.successor_prefix.proofs.halves.halve.Goals as goal

pub returns-then-at-start-clause-halve : goal.returns-then-at-start-clause-halve
returns-then-at-start-clause-halve c = search (rules, halving)

pub returns-clause-halve : goal.returns-clause-halve
returns-clause-halve c = search (rules, halving)
