-- `successor_prefix::alone::form` meets its contract.
use Rattle.std.proofs.Common.{rules}
use Rattle.state_progress.proofs.Laws.Progress.{to_ends}
use Rattle.successor_prefix.proofs.Laws.AloneLead.{alones}
use Rattle.successor_prefix.proofs.alone.form.Goals as goal

pub returns-then-state-lt4-clause-leads_alone : goal.returns-then-state-lt4-clause-leads_alone
returns-then-state-lt4-clause-leads_alone c = search (rules, to_ends, alones)

pub returns-then-state-at-clause-leads_alone : goal.returns-then-state-at-clause-leads_alone
returns-then-state-at-clause-leads_alone c = search (rules, to_ends, alones)

pub returns-then-state-next-clause-leads_alone : goal.returns-then-state-next-clause-leads_alone
returns-then-state-next-clause-leads_alone c = search (rules, to_ends, alones)

pub returns-clause-leads_alone : goal.returns-clause-leads_alone
returns-clause-leads_alone c = search (rules, to_ends, alones)
