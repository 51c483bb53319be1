-- `truth_body::memo::applicable` meets its contract.
use Rattle.std.proofs.Common.{rules}
use Rattle.truth_body.proofs.Laws.Memo.{applyings}
use Rattle.truth_body.proofs.memo.applicable.Goals as goal

pub returns-in-Some : goal.returns-in-Some
returns-in-Some c = search (rules, applyings)

pub returns-in-None : goal.returns-in-None
returns-in-None c = search (rules, applyings)
