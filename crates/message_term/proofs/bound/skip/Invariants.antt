-- `message_term::bound::skip` meets its contract. The loop passes one entry at a turn.
use Rattle.message_term.proofs.Laws.Bound.{Passed}
use Rattle.std.proofs.Common.{◌+◌, ◌≤◌, length}
use Rattle.message_term.proofs.bound.skip.Given as goal

abbrev pub invariant-loop : goal.invariant-loop
invariant-loop l = Passed l.b l.counter l.at × (l.at ≤ length l.b + 131070)
