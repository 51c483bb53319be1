-- `successor_path::reach::below` meets its contract.
use Rattle.std.proofs.Common.{rules, refl}
use Rattle.successor_path.proofs.Laws.ReachKinds.{kinds, of_none}
use Rattle.successor_path.proofs.reach.below.Goals as goal

pub returns-in-Ok-New-clause-leads_past : goal.returns-in-Ok-New-clause-leads_past
returns-in-Ok-New-clause-leads_past c = search (rules, kinds)

pub returns-in-Ok-If-clause-leads_past : goal.returns-in-Ok-If-clause-leads_past
returns-in-Ok-If-clause-leads_past c = search (rules, kinds)

pub returns-in-Ok-Let-clause-leads_past : goal.returns-in-Ok-Let-clause-leads_past
returns-in-Ok-Let-clause-leads_past c = search (rules, kinds)

pub returns-in-Ok-Repl-clause-leads_past : goal.returns-in-Ok-Repl-clause-leads_past
returns-in-Ok-Repl-clause-leads_past c = search (rules, kinds)

pub returns-in_default-clause-leads_past : goal.returns-in_default-clause-leads_past
returns-in_default-clause-leads_past c =
    of_none refl (search rules) (search rules) (search rules) (search rules) (search rules)
