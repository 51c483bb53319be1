-- `message_binding::decide::terms` meets its contract: the first term, and the second behind it.
use Rattle.std.proofs.Common.{rules}
use Rattle.message_binding.proofs.Laws.Decide.{comparisons}
use Rattle.message_binding.proofs.decide.terms.Goals as goal

pub returns-clause-within : goal.returns-clause-within
returns-clause-within c = search (rules, comparisons)

pub returns-clause-compares : goal.returns-clause-compares
returns-clause-compares c = search (rules, comparisons)

pub returns-in_err-next-clause-within : goal.returns-in_err-next-clause-within
returns-in_err-next-clause-within c = search (rules, comparisons)

pub returns-in_err-next-clause-compares : goal.returns-in_err-next-clause-compares
returns-in_err-next-clause-compares c = search (rules, comparisons)
