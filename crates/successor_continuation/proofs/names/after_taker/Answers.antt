-- `successor_continuation::names::after_taker` meets its contract.
use Rattle.std.proofs.Common.{rules}
use Rattle.buffer.proofs.Laws.Buffer.{unchanged}
use Rattle.successor_continuation.proofs.Laws.Rests.{takings}
use Rattle.successor_continuation.proofs.names.after_taker.Goals as goal

pub returns-then-state-lt4-clause-counts_taker : goal.returns-then-state-lt4-clause-counts_taker
returns-then-state-lt4-clause-counts_taker c = search (rules, unchanged, takings)

pub returns-then-state-at-clause-counts_taker : goal.returns-then-state-at-clause-counts_taker
returns-then-state-at-clause-counts_taker c = search (rules, takings)

pub returns-then-arity-eq0-clause-counts_taker : goal.returns-then-arity-eq0-clause-counts_taker
returns-then-arity-eq0-clause-counts_taker c = search (rules, takings)

pub returns-clause-counts_taker : goal.returns-clause-counts_taker
returns-clause-counts_taker c = search (rules, unchanged, takings)
