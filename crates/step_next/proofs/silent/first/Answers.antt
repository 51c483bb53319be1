-- `step_next::silent::first` meets its contract.
use Rattle.std.proofs.Common.{rules}
use Rattle.state_progress.proofs.Laws.Progress.{to_ends}
use Rattle.step_next.proofs.Laws.Silent.{silents}
use Rattle.step_next.proofs.silent.first.Goals as goal

pub returns-in-Some-clause-next_joint : goal.returns-in-Some-clause-next_joint
returns-in-Some-clause-next_joint c = search (rules, to_ends, silents)

pub returns-clause-next_joint : goal.returns-clause-next_joint
returns-clause-next_joint c = search (rules, to_ends, silents)
