-- `truth_label::head::message` meets its contract: the message is the last recipe of an input.
use Rattle.std.proofs.Common.{rules}
use Rattle.truth_label.proofs.Laws.Head.{tellings}
use Rattle.truth_label.proofs.head.message.Goals as goal

pub returns-clause-tells : goal.returns-clause-tells
returns-clause-tells c = search (rules, tellings, c.in_ok-next.was)

pub returns-in_err-next-clause-tells : goal.returns-in_err-next-clause-tells
returns-in_err-next-clause-tells c = search (rules, tellings)
