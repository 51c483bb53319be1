-- `step_between::between::sender` meets its contract.
use Rattle.std.proofs.Common.{rules}
use Rattle.state_progress.proofs.Laws.Progress.{to_ends}
use Rattle.step_between.proofs.Laws.Between.{sends}
use Rattle.step_between.proofs.between.sender.Goals as goal

pub returns-clause-next_sender : goal.returns-clause-next_sender
returns-clause-next_sender c = search (rules, to_ends, sends)
