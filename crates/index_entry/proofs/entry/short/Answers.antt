-- `index_entry::entry::short` meets its contract.
use Rattle.std.proofs.Common.{rules}
use Rattle.index_entry.proofs.Laws.Entry.{shorts}
use Rattle.index_entry.proofs.entry.short.Goals as goal

pub returns-then-names-gt-BYTE-clause-value : goal.returns-then-names-gt-BYTE-clause-value
returns-then-names-gt-BYTE-clause-value c = search (rules, shorts)

pub returns-clause-value : goal.returns-clause-value
returns-clause-value c = search (rules, shorts)
