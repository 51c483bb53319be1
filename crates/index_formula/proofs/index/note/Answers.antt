-- `index_formula::index::note` meets its contract: one number is written, by whether the formula has steps.
use Rattle.std.proofs.Common.{rules}
use Rattle.index_formula.proofs.Laws.Read.{entries}
use Rattle.index_formula.proofs.index.note.Goals as goal

pub returns-then-entry-clause-within : goal.returns-then-entry-clause-within
returns-then-entry-clause-within c = search (rules, entries)

pub returns-then-entry-clause-notes : goal.returns-then-entry-clause-notes
returns-then-entry-clause-notes c = search (rules, entries)

pub returns-else-entry-clause-within : goal.returns-else-entry-clause-within
returns-else-entry-clause-within c = search (rules, entries)

pub returns-else-entry-clause-notes : goal.returns-else-entry-clause-notes
returns-else-entry-clause-notes c = search (rules, entries)
