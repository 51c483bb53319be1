-- `message_binding::bind::message` meets its contract: the number of its nodes, and its run.
use Rattle.std.proofs.Common.{rules}
use Rattle.message_binding.proofs.Laws.Bind.{messages}
use Rattle.message_binding.proofs.bind.message.Goals as goal

pub returns-clause-binds_run : goal.returns-clause-binds_run
returns-clause-binds_run c = search (rules, messages)
