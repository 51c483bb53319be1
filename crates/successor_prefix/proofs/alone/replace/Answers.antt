-- `successor_prefix::alone::replace` meets its contract.
use Rattle.std.proofs.Common.{rules}
use Rattle.state_progress.proofs.Laws.Progress.{extensions, to_ends}
use Rattle.successor_prefix.proofs.Laws.Alone.{replaced_within, replaced}
use Rattle.successor_prefix.proofs.alone.replace.Goals as goal

pub returns-clause-written_from_2 : goal.returns-clause-written_from_2
returns-clause-written_from_2 c = search (rules, extensions, to_ends, replaced_within)

pub returns-clause-replaces : goal.returns-clause-replaces
returns-clause-replaces c = search (rules, extensions, to_ends, replaced)
