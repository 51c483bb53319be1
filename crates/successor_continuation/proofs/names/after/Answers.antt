-- `successor_continuation::names::after` meets its contract.
use Rattle.std.proofs.Common.{rules}
use Rattle.buffer.proofs.Laws.Buffer.{unchanged}
use Rattle.successor_continuation.proofs.Laws.Rests.{actors}
use Rattle.successor_continuation.proofs.names.after.Goals as goal

pub returns-then-state-lt4-clause-counts_actor : goal.returns-then-state-lt4-clause-counts_actor
returns-then-state-lt4-clause-counts_actor c = search (rules, unchanged, actors)

pub returns-then-state-at-clause-counts_actor : goal.returns-then-state-at-clause-counts_actor
returns-then-state-at-clause-counts_actor c = search (rules, actors)

pub returns-clause-counts_actor : goal.returns-clause-counts_actor
returns-clause-counts_actor c = search (rules, actors)
