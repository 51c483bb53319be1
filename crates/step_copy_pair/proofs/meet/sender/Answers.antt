-- `step_copy_pair::meet::sender` meets its contract.
use Rattle.std.proofs.Common.{rules}
use Rattle.step_copy_pair.proofs.Laws.Look.{sends}
use Rattle.step_copy_pair.proofs.meet.sender.Goals as goal

pub returns-clause-next_copy_sender : goal.returns-clause-next_copy_sender
returns-clause-next_copy_sender c = search (rules, sends)
