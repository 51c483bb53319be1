-- `successor_state::lead::named` meets its contract.
use Rattle.std.proofs.Common.{rules}
use Rattle.state_progress.proofs.Laws.Progress.{to_ends}
use Rattle.successor_state.proofs.Laws.Leads.{leads_on, leadings}
use Rattle.successor_state.proofs.lead.named.Goals as goal

pub returns-clause-leads : goal.returns-clause-leads
returns-clause-leads c =
    let names = c.rest_names.ensures in
    leads_on names.settles c.in_ok-rests.was names.written_from c.build.ensures.leads_at

pub returns-in_err-rests-clause-leads : goal.returns-in_err-rests-clause-leads
returns-in_err-rests-clause-leads c = search (rules, to_ends, leadings)
