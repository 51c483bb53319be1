-- The end of a term's number, kind by kind.
use Rattle.std.proofs.Common.{rules}
use Rattle.decode_term.proofs.Laws.Head.{heads}
use Rattle.decode_term.proofs.term.PathSort.fields_end.Goals as goal

pub returns-in-0 : goal.returns-in-0
returns-in-0 c = search (rules, heads)

pub returns-in-1 : goal.returns-in-1
returns-in-1 c = search (rules, heads)

pub returns-in_default : goal.returns-in_default
returns-in_default c = search (rules, heads)
