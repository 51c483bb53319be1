-- `successor_state::lead::whole` meets its contract.
use Rattle.std.proofs.Common.{rules}
use Rattle.state_progress.proofs.Laws.Progress.{to_ends}
use Rattle.successor_state.proofs.Laws.LeadOne.{labels}
use Rattle.successor_state.proofs.lead.whole.Goals as goal

pub returns-in-Output-clause-leads : goal.returns-in-Output-clause-leads
returns-in-Output-clause-leads c = search (rules, to_ends, labels)

pub returns-in-Input-clause-leads : goal.returns-in-Input-clause-leads
returns-in-Input-clause-leads c = search (rules, to_ends, labels)

pub returns-in-Silent-clause-leads : goal.returns-in-Silent-clause-leads
returns-in-Silent-clause-leads c = search (rules, to_ends, labels)
