-- `successor_state::lead::lead` meets its contract.
use Rattle.std.proofs.Common.{rules}
use Rattle.state_progress.proofs.Laws.Progress.{to_ends}
use Rattle.successor_state.proofs.Laws.Leads.{stepless_leadings}
use Rattle.successor_state.proofs.lead.lead.Goals as goal

pub returns-in-Some-clause-leads_for : goal.returns-in-Some-clause-leads_for
returns-in-Some-clause-leads_for c = search (rules, to_ends, stepless_leadings)

pub returns-in-None-clause-leads_for : goal.returns-in-None-clause-leads_for
returns-in-None-clause-leads_for c = search (rules, to_ends, stepless_leadings)

pub returns-clause-leads_for : goal.returns-clause-leads_for
returns-clause-leads_for c = search (rules, to_ends, stepless_leadings)
