-- `message_term::work::reduce` meets its contract: the part comes back with the normal form in front.
use Rattle.std.proofs.Common.{rules}
use Rattle.message_term.proofs.Laws.Leaf.{no_reach}
use Rattle.message_term.proofs.Laws.Reduce.{reductions}
use Rattle.message_term.proofs.work.reduce.Goals as goal

pub returns-then-count-gt-LENGTH-clause-within : goal.returns-then-count-gt-LENGTH-clause-within
returns-then-count-gt-LENGTH-clause-within c = search (rules, reductions)

pub returns-then-count-gt-LENGTH-clause-reduced : goal.returns-then-count-gt-LENGTH-clause-reduced
returns-then-count-gt-LENGTH-clause-reduced c = search (rules, no_reach, reductions)

pub returns-clause-within : goal.returns-clause-within
returns-clause-within c = search (rules, reductions)

pub returns-clause-reduced : goal.returns-clause-reduced
returns-clause-reduced c = search (rules, no_reach, reductions)
