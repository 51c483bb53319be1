-- `successor_continuation::rest::receive` meets its contract.
use Rattle.std.proofs.Common.{rules}
use Rattle.state_progress.proofs.Laws.Progress.{extensions, to_ends}
use Rattle.successor_continuation.proofs.Laws.Rest.{takings}
use Rattle.successor_continuation.proofs.rest.receive.Goals as goal

pub returns-clause-takes_behind : goal.returns-clause-takes_behind
returns-clause-takes_behind c = search (rules, extensions, to_ends, takings)
