-- `message_normal::normal::surviving` meets its contract, kind by kind.
use Rattle.std.proofs.Common.{rules}
use Rattle.message_normal.proofs.Laws.Surviving.{survivors}
use Rattle.message_normal.proofs.normal.surviving.Goals as goal

pub returns-then-mid-lt4-clause-survives : goal.returns-then-mid-lt4-clause-survives
returns-then-mid-lt4-clause-survives c = search (rules, survivors)

pub returns-then-parts-eq1-clause-survives : goal.returns-then-parts-eq1-clause-survives
returns-then-parts-eq1-clause-survives c = search (rules, survivors)

pub returns-then-kind-eq-ENC-clause-survives : goal.returns-then-kind-eq-ENC-clause-survives
returns-then-kind-eq-ENC-clause-survives c = search (rules, survivors)

pub returns-then-kind-eq-DEC-clause-survives : goal.returns-then-kind-eq-DEC-clause-survives
returns-then-kind-eq-DEC-clause-survives c = search (rules, survivors)

pub returns-clause-survives : goal.returns-clause-survives
returns-clause-survives c = search (rules, survivors)
