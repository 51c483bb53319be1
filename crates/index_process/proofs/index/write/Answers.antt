-- `index_process::index::write` meets its contract.
use Rattle.std.proofs.Common.{rules}
use Rattle.index_process.proofs.Laws.Read.{two_written}
use Rattle.index_process.proofs.index.write.Goals as goal

pub returns-clause-writes : goal.returns-clause-writes
returns-clause-writes c = search (rules, two_written)
