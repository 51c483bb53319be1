-- `message_binding::bind::name` meets its contract: the number of its nodes, and its own.
use Rattle.std.proofs.Common.{rules}
use Rattle.message_binding.proofs.Laws.Bind.{names}
use Rattle.message_binding.proofs.bind.name.Goals as goal

pub returns-clause-binds : goal.returns-clause-binds
returns-clause-binds c = search (rules, names)
