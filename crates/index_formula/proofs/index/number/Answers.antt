-- `index_formula::index::number` meets its contract.
use Rattle.std.proofs.Common.{rules}
use Rattle.index_formula.proofs.Laws.Read.{sayings}
use Rattle.index_formula.proofs.index.number.Goals as goal

pub returns-then-at-ge-SLICE-clause-says : goal.returns-then-at-ge-SLICE-clause-says
returns-then-at-ge-SLICE-clause-says c = search (rules, sayings)

pub returns-then-f-entry-clause-says : goal.returns-then-f-entry-clause-says
returns-then-f-entry-clause-says c = search (rules, sayings)

pub returns-clause-says : goal.returns-clause-says
returns-clause-says c = search (rules, sayings)
