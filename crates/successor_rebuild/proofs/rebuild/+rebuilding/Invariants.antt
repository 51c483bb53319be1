-- `successor_rebuild::rebuild::rebuild` and `rest` meet their contracts: a block of threads that do not act, one that acts, and the others. The
-- measure is the number of bytes of the records to come, and whether a block is.
use Rattle.std.proofs.Common.{◌+◌, ◌-◌, ◌*◌}
use Rattle.successor_rebuild.proofs.rebuild.+rebuilding.Given as goal

abbrev pub decreases-rebuild : goal.decreases-rebuild
decreases-rebuild l = 2 * (l.to - l.at) + 1

abbrev pub decreases-rest : goal.decreases-rest
decreases-rest l = 2 * (l.to - l.at)
