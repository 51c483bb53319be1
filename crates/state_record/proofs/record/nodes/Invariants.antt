-- `state_record::record::nodes` meets its contract. The loop passes one entry at a turn.
use Rattle.state_record.proofs.Laws.Record.{Summed}
use Rattle.std.proofs.Common.{length, ◌-◌, ◌+◌, ◌*◌, ◌≤◌}
use Rattle.state_record.proofs.record.nodes.Given as goal

abbrev pub invariant-loop-at : goal.invariant-loop-at
invariant-loop-at l = Summed l.b l.at l.sum × (2 * l.sum ≤ l.at) × (l.at ≤ length l.b + 131070)

-- proposed from the loop's first test
abbrev pub decreases-loop-at : goal.decreases-loop-at
decreases-loop-at l = length l.b + 131070 - l.at
