-- `truth_body::memo::charge` meets its contract.
use Rattle.std.proofs.Common.{rules}
use Rattle.truth_body.proofs.Laws.Less.{charged}
use Rattle.truth_body.proofs.Laws.Memo.{chargings}
use Rattle.truth_body.proofs.memo.charge.Goals as goal

pub returns-then-visits-eq0-clause-less : goal.returns-then-visits-eq0-clause-less
returns-then-visits-eq0-clause-less c = search (rules, charged, chargings)

pub returns-then-visits-eq0-clause-charges : goal.returns-then-visits-eq0-clause-charges
returns-then-visits-eq0-clause-charges c = search (rules, charged, chargings)

pub returns-in_err-left-clause-less : goal.returns-in_err-left-clause-less
returns-in_err-left-clause-less c = search (rules, charged, chargings)

pub returns-in_err-left-clause-charges : goal.returns-in_err-left-clause-charges
returns-in_err-left-clause-charges c = search (rules, charged, chargings)

pub returns-clause-less : goal.returns-clause-less
returns-clause-less c = search (rules, charged, chargings)

pub returns-clause-charges : goal.returns-clause-charges
returns-clause-charges c = search (rules, charged, chargings)
