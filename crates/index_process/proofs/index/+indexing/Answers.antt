-- `index_process::index::index` and `index_process::index::row`, which call each other, meet their contracts. The measure is the number of process nodes
-- left, two steps to a node.
use Rattle.std.proofs.Common.{rules}
use Rattle.buffer.proofs.Laws.Buffer.{unchanged}
use Rattle.index_process.proofs.Laws.Index.{indexing, model_left, rows}
use Rattle.index_process.proofs.index.+indexing.Goals as goal

pub index-returns-then-left-eq0-clause-indexes : goal.index-returns-then-left-eq0-clause-indexes
index-returns-then-left-eq0-clause-indexes t c = search (rules, unchanged, indexing, model_left, rows)

pub index-returns-then-at-ge-SLICE-clause-indexes :
    goal.index-returns-then-at-ge-SLICE-clause-indexes
index-returns-then-at-ge-SLICE-clause-indexes t c = search (rules, indexing, rows)

pub index-returns-clause-indexes : goal.index-returns-clause-indexes
index-returns-clause-indexes t c = search (rules, indexing, rows)

pub row-returns-then-count-eq1-clause-indexes_row :
    goal.row-returns-then-count-eq1-clause-indexes_row
row-returns-then-count-eq1-clause-indexes_row t c = search (rules, indexing, rows)

pub row-returns-clause-indexes_row : goal.row-returns-clause-indexes_row
row-returns-clause-indexes_row t c = search (rules, indexing, rows)
