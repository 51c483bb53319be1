-- `truth_label::head::work` meets its contract: the label by its kind.
use Rattle.std.proofs.Common.{rules}
use Rattle.truth_label.proofs.Laws.Head.{heads}
use Rattle.truth_label.proofs.head.work.Goals as goal

pub returns-in-Output-clause-heads : goal.returns-in-Output-clause-heads
returns-in-Output-clause-heads c = search (rules, heads)

pub returns-in-Input-clause-heads : goal.returns-in-Input-clause-heads
returns-in-Input-clause-heads c = search (rules, heads)

pub returns-in_default-clause-heads : goal.returns-in_default-clause-heads
returns-in_default-clause-heads c = search (rules, heads)
