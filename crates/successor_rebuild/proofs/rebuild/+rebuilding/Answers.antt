-- `successor_rebuild::rebuild::rebuild` and `rest` meet their contracts: a block of threads that do not act, one that acts, and the others. The
-- measure is the number of bytes of the records to come, and whether a block is.
use Rattle.std.proofs.Common.{rules}
use Rattle.state_progress.proofs.Laws.Progress.{extensions, to_ends, records_ends}
use Rattle.buffer.proofs.Laws.Buffer.{unchanged}
use Rattle.successor_rebuild.proofs.Laws.Rebuild.{rebuilds, after_block, one_more}
use Rattle.successor_rebuild.proofs.rebuild.+rebuilding.Goals as goal

-- What the answers share.
ruleset shared = (extensions, rebuilds, to_ends, records_ends, after_block)

pub rebuild-returns-then-to-at-clause-rebuilds : goal.rebuild-returns-then-to-at-clause-rebuilds
rebuild-returns-then-to-at-clause-rebuilds t c = search (rules, shared, unchanged, one_more)

pub rebuild-returns-clause-written_from_2 : goal.rebuild-returns-clause-written_from_2
rebuild-returns-clause-written_from_2 t c = search (rules, shared, unchanged, one_more)

pub rebuild-returns-clause-rebuilds : goal.rebuild-returns-clause-rebuilds
rebuild-returns-clause-rebuilds t c = search (rules, shared)

pub rest-returns-then-to-at-lt4-clause-resumes : goal.rest-returns-then-to-at-lt4-clause-resumes
rest-returns-then-to-at-lt4-clause-resumes t c = search (rules, shared, unchanged, one_more)

pub rest-returns-clause-written_from_2 : goal.rest-returns-clause-written_from_2
rest-returns-clause-written_from_2 t c = search (rules, shared, unchanged, one_more)

pub rest-returns-clause-resumes : goal.rest-returns-clause-resumes
rest-returns-clause-resumes t c = search (rules, extensions, rebuilds, to_ends, records_ends, one_more)
