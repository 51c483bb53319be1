-- `successor_prefix::alone::begin` meets its contract.
use Rattle.std.proofs.Common.{rules}
use Rattle.state_progress.proofs.Laws.Progress.{to_ends, to_end_twice}
use Rattle.successor_prefix.proofs.Laws.AloneLead.{leads_until}
use Rattle.successor_prefix.proofs.alone.begin.Goals as goal

pub returns-clause-written_from_2 : goal.returns-clause-written_from_2
returns-clause-written_from_2 c = search (rules, to_ends, to_end_twice, leads_until)

pub returns-clause-leads_until : goal.returns-clause-leads_until
returns-clause-leads_until c = search (rules, to_ends, to_end_twice, leads_until)
