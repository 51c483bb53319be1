-- `index_process::index::note` meets its contract: two numbers are written, and then two behind them.
use Rattle.std.proofs.Common.{rules}
use Rattle.index_process.proofs.Laws.Read.{entries, fitting}
use Rattle.index_process.proofs.index.note.Goals as goal

pub returns-clause-written_from : goal.returns-clause-written_from
returns-clause-written_from c = search (rules, entries, fitting)

pub returns-clause-notes : goal.returns-clause-notes
returns-clause-notes c = search (rules, entries, fitting)
