-- `truth_label::head::input` meets its contract: the channel, and the message where the channel ends.
use Rattle.std.proofs.Common.{rules}
use Rattle.truth_label.proofs.Laws.Head.{inputs}
use Rattle.truth_label.proofs.head.input.Goals as goal

pub returns-clause-inputs : goal.returns-clause-inputs
returns-clause-inputs c = search (rules, inputs)

pub returns-in_err-next-clause-inputs : goal.returns-in_err-next-clause-inputs
returns-in_err-next-clause-inputs c = search (rules, inputs)
