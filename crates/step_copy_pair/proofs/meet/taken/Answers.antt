-- `step_copy_pair::meet::taken` meets its contract.
use Rattle.std.proofs.Common.{rules}
use Rattle.step_copy_pair.proofs.Laws.Takers.{takings}
use Rattle.step_copy_pair.proofs.meet.taken.Goals as goal

pub returns-then-going-clause-pairs_in : goal.returns-then-going-clause-pairs_in
returns-then-going-clause-pairs_in c = search (rules, takings)

pub returns-clause-pairs_in : goal.returns-clause-pairs_in
returns-clause-pairs_in c = search (rules, takings)
