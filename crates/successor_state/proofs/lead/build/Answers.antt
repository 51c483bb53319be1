-- `successor_state::lead::build` meets its contract.
use Rattle.std.proofs.Common.{rules}
use Rattle.state_progress.proofs.Laws.Progress.{to_end_twice}
use Rattle.successor_state.proofs.Laws.Lead.{leads_at}
use Rattle.successor_state.proofs.lead.build.Goals as goal

pub returns-clause-leads_at : goal.returns-clause-leads_at
returns-clause-leads_at c = search (rules, leads_at)

pub returns-clause-written_from_2 : goal.returns-clause-written_from_2
returns-clause-written_from_2 c = search (rules, to_end_twice)
