-- `successor_path::reach::side` meets its contract.
use Rattle.std.proofs.Common.{rules}
use Rattle.successor_path.proofs.Laws.ReachPart.{sides_passed}
use Rattle.successor_path.proofs.reach.side.Goals as goal

pub returns-then-contains-clause-leads_past_if : goal.returns-then-contains-clause-leads_past_if
returns-then-contains-clause-leads_past_if c = search (rules, sides_passed)

pub returns-clause-leads_past_if : goal.returns-clause-leads_past_if
returns-clause-leads_past_if c = search (rules, sides_passed)
