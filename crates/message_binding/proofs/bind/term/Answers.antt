-- `message_binding::bind::term` meets its contract: its message is worked behind the place of its size.
use Rattle.std.proofs.Common.{rules}
use Rattle.message_binding.proofs.Laws.Bind.{counts, terms}
use Rattle.message_binding.proofs.bind.term.Goals as goal

pub returns-clause-bind_worked : goal.returns-clause-bind_worked
returns-clause-bind_worked c = search (rules, counts, terms)

pub returns-in_err-worked-clause-within : goal.returns-in_err-worked-clause-within
returns-in_err-worked-clause-within c = search (rules, counts, terms)

pub returns-in_err-worked-clause-bind_worked : goal.returns-in_err-worked-clause-bind_worked
returns-in_err-worked-clause-bind_worked c = search (rules, counts, terms)
