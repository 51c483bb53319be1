-- `truth_body::memo::memoise` meets its contract.
use Rattle.std.proofs.Common.{rules}
use Rattle.truth_body.proofs.Laws.Memo.{memoisings}
use Rattle.truth_body.proofs.memo.memoise.Goals as goal

pub returns-in-Open : goal.returns-in-Open
returns-in-Open c = search (rules, memoisings)

pub returns-in-Alike : goal.returns-in-Alike
returns-in-Alike c = search (rules, memoisings)
