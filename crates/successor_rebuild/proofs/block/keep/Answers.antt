-- `successor_rebuild::block::keep` meets its contract.
use Rattle.std.proofs.Common.{rules}
use Rattle.successor_rebuild.proofs.Laws.Block.{keepings, block_asks}
use Rattle.successor_rebuild.proofs.block.keep.Goals as goal

pub returns-then-not-fits-clause-keeps : goal.returns-then-not-fits-clause-keeps
returns-then-not-fits-clause-keeps c = search (rules, keepings, block_asks)

pub returns-clause-keeps : goal.returns-clause-keeps
returns-clause-keeps c = search (rules, keepings, block_asks)
