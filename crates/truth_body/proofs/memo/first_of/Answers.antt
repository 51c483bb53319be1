-- `truth_body::memo::first_of` meets its contract.
use Rattle.std.proofs.Common.{rules}
use Rattle.truth_body.proofs.Laws.Memo.{memoisings}
use Rattle.truth_body.proofs.memo.first_of.Goals as goal

pub returns-in-Some : goal.returns-in-Some
returns-in-Some c = search (rules, memoisings)

pub returns-in-None : goal.returns-in-None
returns-in-None c = search (rules, memoisings)
