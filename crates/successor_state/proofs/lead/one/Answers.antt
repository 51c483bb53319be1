-- `successor_state::lead::one` meets its contract.
use Rattle.std.proofs.Common.{rules}
use Rattle.state_progress.proofs.Laws.Progress.{to_ends}
use Rattle.successor_state.proofs.Laws.LeadOne.{ones}
use Rattle.successor_state.proofs.lead.one.Goals as goal

pub returns-then-acts-clause-leads_one : goal.returns-then-acts-clause-leads_one
returns-then-acts-clause-leads_one c = search (rules, to_ends, ones)

pub returns-clause-leads_one : goal.returns-clause-leads_one
returns-clause-leads_one c = search (rules, to_ends, ones)
