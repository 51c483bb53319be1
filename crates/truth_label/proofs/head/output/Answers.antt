-- `truth_label::head::output` meets its contract: its channel is the one recipe.
use Rattle.std.proofs.Common.{rules}
use Rattle.truth_label.proofs.Laws.Head.{tellings}
use Rattle.truth_label.proofs.head.output.Goals as goal

pub returns-clause-tells : goal.returns-clause-tells
returns-clause-tells c = search (rules, tellings, c.in_ok-next.was)

pub returns-in_err-next-clause-tells : goal.returns-in_err-next-clause-tells
returns-in_err-next-clause-tells c = search (rules, tellings)
