-- `message_normal::normal::projected` meets its contract, by what stands under the projection.
use Rattle.std.proofs.Common.{rules}
use Rattle.message_normal.proofs.Laws.Surviving.{projections}
use Rattle.message_normal.proofs.normal.projected.Goals as goal

pub returns-then-number-ne-PAIR-clause-projects : goal.returns-then-number-ne-PAIR-clause-projects
returns-then-number-ne-PAIR-clause-projects c = search (rules, projections)

pub returns-then-kind-eq-FST-clause-projects : goal.returns-then-kind-eq-FST-clause-projects
returns-then-kind-eq-FST-clause-projects c = search (rules, projections)

pub returns-clause-projects : goal.returns-clause-projects
returns-clause-projects c = search (rules, projections)
