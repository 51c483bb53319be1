-- `successor_path::reach::branch` meets its contract.
use Rattle.std.proofs.Common.{rules}
use Rattle.successor_path.proofs.Laws.ReachPart.{ifs_passed}
use Rattle.successor_path.proofs.reach.branch.Goals as goal

pub returns-then-contains-clause-if_leads_past : goal.returns-then-contains-clause-if_leads_past
returns-then-contains-clause-if_leads_past c = search (rules, ifs_passed)

pub returns-clause-if_leads_past : goal.returns-clause-if_leads_past
returns-clause-if_leads_past c = search (rules, ifs_passed)
