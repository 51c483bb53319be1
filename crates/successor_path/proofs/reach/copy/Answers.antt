-- `successor_path::reach::copy` meets its contract.
use Rattle.std.proofs.Common.{rules}
use Rattle.successor_path.proofs.Laws.ReachPart.{copy_passed}
use Rattle.successor_path.proofs.reach.copy.Goals as goal

pub returns-clause-leads_past_any : goal.returns-clause-leads_past_any
returns-clause-leads_past_any c = search (rules, copy_passed)
