-- `successor_continuation::names::rest_names` meets its contract.
use Rattle.std.proofs.Common.{rules}
use Rattle.successor_continuation.proofs.Laws.Rests.{answers}
use Rattle.successor_continuation.proofs.Laws.RestsSettled.{settlings}
use Rattle.successor_continuation.proofs.names.rest_names.Goals as goal

pub returns-in_ok-next-in-Output-clause-settles : goal.returns-in_ok-next-in-Output-clause-settles
returns-in_ok-next-in-Output-clause-settles c = search (rules, settlings, answers)

pub returns-in_err-next-in-Output-clause-settles : goal.returns-in_err-next-in-Output-clause-settles
returns-in_err-next-in-Output-clause-settles c = search (rules, settlings, answers)

pub returns-in_ok-next-in-Input-clause-settles : goal.returns-in_ok-next-in-Input-clause-settles
returns-in_ok-next-in-Input-clause-settles c = search (rules, settlings, answers)

pub returns-in_err-next-in-Input-clause-settles : goal.returns-in_err-next-in-Input-clause-settles
returns-in_err-next-in-Input-clause-settles c = search (rules, settlings, answers)
