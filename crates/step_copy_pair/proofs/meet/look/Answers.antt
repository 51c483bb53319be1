-- `step_copy_pair::meet::look` meets its contract.
use Rattle.std.proofs.Common.{rules}
use Rattle.state_progress.proofs.Laws.Progress.{to_ends}
use Rattle.step_copy_pair.proofs.Laws.Look.{looks}
use Rattle.step_copy_pair.proofs.meet.look.Goals as goal

pub returns-clause-looks : goal.returns-clause-looks
returns-clause-looks c = search (rules, to_ends, looks)
