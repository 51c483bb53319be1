-- `successor_rebuild::block::measure` meets its contract. The loop passes one record at a turn.
use Rattle.std.proofs.Common.{rules}
use Rattle.successor_rebuild.proofs.Laws.Still.{stills, endings}
use borrow.Author.Tests.{leb-true}
use Rattle.successor_rebuild.proofs.block.measure.Goals as goal

pub loop-end-init : goal.loop-end-init
loop-end-init c = search (rules, stills, endings)

pub returns-then-to-next-clause-halts : goal.returns-then-to-next-clause-halts
returns-then-to-next-clause-halts c = search (rules, stills, endings, leb-true)

pub loop-end-preserved : goal.loop-end-preserved
loop-end-preserved c = search (rules, stills, endings, leb-true)
