-- `message_binding::decide::second` meets its contract: the second message stands behind the first.
use Rattle.std.proofs.Common.{rules}
use Rattle.message_binding.proofs.Laws.Decide.{seconds}
use Rattle.message_binding.proofs.decide.second.Goals as goal

pub returns-clause-second_compared : goal.returns-clause-second_compared
returns-clause-second_compared c = search (rules, seconds)

pub returns-in_err-next-clause-second_compared : goal.returns-in_err-next-clause-second_compared
returns-in_err-next-clause-second_compared c = search (rules, seconds)
