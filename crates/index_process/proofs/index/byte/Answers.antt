-- `index_process::index::byte` meets its contract.
use Rattle.std.proofs.Common.{rules}
use Rattle.index_process.proofs.Laws.Read.{sayings}
use Rattle.index_process.proofs.index.byte.Goals as goal

pub returns-then-at-ge-SLICE-clause-says_byte : goal.returns-then-at-ge-SLICE-clause-says_byte
returns-then-at-ge-SLICE-clause-says_byte c = search (rules, sayings)

pub returns-then-s-behind-clause-says_byte : goal.returns-then-s-behind-clause-says_byte
returns-then-s-behind-clause-says_byte c = search (rules, sayings)

pub returns-clause-says_byte : goal.returns-clause-says_byte
returns-clause-says_byte c = search (rules, sayings)
