-- `successor_continuation::rest::settle` meets its contract.
use Rattle.std.proofs.Common.{rules}
use Rattle.state_progress.proofs.Laws.Progress.{extensions, to_ends}
use Rattle.successor_continuation.proofs.Laws.Rest.{settlings}
use Rattle.successor_continuation.proofs.rest.settle.Goals as goal

pub returns-then-matches-clause-settles_behind :
    goal.returns-then-matches-clause-settles_behind
returns-then-matches-clause-settles_behind c = search (rules, extensions, to_ends, settlings)
