-- `truth_label::head::silent` meets its contract: public name 0 is written for the channel.
use Rattle.std.proofs.Common.{rules}
use Rattle.truth_label.proofs.Laws.Head.{silences}
use Rattle.truth_label.proofs.head.silent.Goals as goal

pub returns-clause-silences : goal.returns-clause-silences
returns-clause-silences c = search (rules, silences)
