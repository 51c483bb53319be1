-- `successor_rebuild::rebuild::act` meets its contract.
use Rattle.std.proofs.Common.{rules}
use Rattle.successor_rebuild.proofs.Laws.Rebuild.{renewals}
use Rattle.successor_rebuild.proofs.rebuild.act.Goals as goal

pub returns-then-at-first-clause-renews : goal.returns-then-at-first-clause-renews
returns-then-at-first-clause-renews c = search (rules, renewals)

pub returns-clause-renews : goal.returns-clause-renews
returns-clause-renews c = search (rules, renewals)
