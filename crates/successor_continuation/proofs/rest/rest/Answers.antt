-- `successor_continuation::rest::rest` meets its contract.
use Rattle.std.proofs.Common.{rules, refl}
use Rattle.state_progress.proofs.Laws.Progress.{extensions, to_ends}
use Rattle.successor_continuation.proofs.Laws.Rest.{rests, rest_acts}
use Rattle.successor_continuation.proofs.rest.rest.Goals as goal

pub returns-then-s-place-clause-rests : goal.returns-then-s-place-clause-rests
returns-then-s-place-clause-rests c = search (rules, extensions, to_ends, rests)

pub returns-in-Ok-Repl-clause-rests : goal.returns-in-Ok-Repl-clause-rests
returns-in-Ok-Repl-clause-rests c = search (rules, extensions, to_ends, rests)

pub returns-in_default-clause-rests : goal.returns-in_default-clause-rests
returns-in_default-clause-rests c = rest_acts c.load-t.ensures.loads c.load-t.ensures.within refl (search rules) c.offer.ensures.settles_rest
