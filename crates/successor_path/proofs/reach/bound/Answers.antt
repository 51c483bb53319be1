-- `successor_path::reach::bound` meets its contract.
use Rattle.std.proofs.Common.{rules}
use Rattle.state_head.proofs.Laws.HeadKinds.{let_ends}
use Rattle.successor_path.proofs.Laws.ReachPart.{lets_passed}
use Rattle.successor_path.proofs.reach.bound.Goals as goal

pub returns-clause-leads_past_any : goal.returns-clause-leads_past_any
returns-clause-leads_past_any c = search (rules, let_ends, lets_passed)

pub returns-in_default-clause-leads_past_any : goal.returns-in_default-clause-leads_past_any
returns-in_default-clause-leads_past_any c = search (rules, let_ends, lets_passed)
