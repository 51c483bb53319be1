-- `index_process::index::number` meets its contract.
use Rattle.std.proofs.Common.{rules}
use Rattle.index_process.proofs.Laws.Read.{sayings}
use Rattle.index_process.proofs.index.number.Goals as goal

pub returns-then-at-ge-SLICE-clause-says : goal.returns-then-at-ge-SLICE-clause-says
returns-then-at-ge-SLICE-clause-says c = search (rules, sayings)

pub returns-then-s-entry-clause-says : goal.returns-then-s-entry-clause-says
returns-then-s-entry-clause-says c = search (rules, sayings)

pub returns-clause-says : goal.returns-clause-says
returns-clause-says c = search (rules, sayings)
