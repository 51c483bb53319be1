-- `successor_continuation::rest::offer` meets its contract.
use Rattle.std.proofs.Common.{rules, refl}
use Rattle.successor_continuation.proofs.Laws.Rest.{behind, behind_output}
use Rattle.successor_continuation.proofs.rest.offer.Goals as goal

pub returns-in-Ok-Input-clause-settles_rest :
    goal.returns-in-Ok-Input-clause-settles_rest
returns-in-Ok-Input-clause-settles_rest c = search (rules, behind)

pub returns-in_default-clause-settles_rest : goal.returns-in_default-clause-settles_rest
returns-in_default-clause-settles_rest c = behind_output refl (search rules) c.settle.ensures.settles_behind
