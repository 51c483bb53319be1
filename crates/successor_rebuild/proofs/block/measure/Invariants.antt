-- `successor_rebuild::block::measure` meets its contract. The loop passes one record at a turn.
use Rattle.std.proofs.Common.{◌≤◌, ◌-◌}
use Rattle.successor_rebuild.specs.Block.{Still}
use Rattle.successor_rebuild.proofs.block.measure.Given as goal

abbrev pub invariant-loop-end : goal.invariant-loop-end
invariant-loop-end l =
    Still l.out l.at l.to l.first l.second (record { end = l.end; threads = l.threads; nodes = l.nodes }) × (l.at ≤ l.end) × (l.end ≤ l.to) × (l.threads ≤ l.end)

abbrev pub decreases-loop-end : goal.decreases-loop-end
decreases-loop-end l = l.to - l.end
