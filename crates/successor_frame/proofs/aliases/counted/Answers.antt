-- `successor_frame::aliases::counted` meets its contract.
use Rattle.std.proofs.Common.{rules}
use Rattle.successor_frame.proofs.Laws.Aliases.{countings}
use Rattle.successor_frame.proofs.aliases.counted.Goals as goal

pub returns-clause-counts_nodes : goal.returns-clause-counts_nodes
returns-clause-counts_nodes c = search (rules, countings)
