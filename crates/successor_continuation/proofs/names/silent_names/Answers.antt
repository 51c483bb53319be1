-- `successor_continuation::names::silent_names` meets its contract.
use Rattle.std.proofs.Common.{rules}
use Rattle.state_progress.proofs.Laws.Progress.{to_ends}
use Rattle.successor_continuation.proofs.Laws.Rests.{answers}
use Rattle.successor_continuation.proofs.Laws.RestsSettled.{silents}
use Rattle.successor_continuation.proofs.names.silent_names.Goals as goal

pub returns-clause-settles_silent : goal.returns-clause-settles_silent
returns-clause-settles_silent c = search (rules, to_ends, silents, answers, c.in_ok-last.was, c.in_ok-next.was)

pub returns-in_err-last-clause-settles_silent : goal.returns-in_err-last-clause-settles_silent
returns-in_err-last-clause-settles_silent c = search (rules, to_ends, silents)

pub returns-in_err-next-clause-settles_silent : goal.returns-in_err-next-clause-settles_silent
returns-in_err-next-clause-settles_silent c = search (rules, to_ends, silents, answers, c.in_ok-last.was, c.in_err-next.was)
