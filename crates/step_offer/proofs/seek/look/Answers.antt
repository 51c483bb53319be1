-- `step_offer::seek::look` meets its contract.
use Rattle.std.proofs.Common.{rules, refl}
use Rattle.step_offer.proofs.Laws.Look.{looks, looks_alone}
use Rattle.step_offer.proofs.seek.look.Goals as goal

pub returns-then-s-place-clause-looks : goal.returns-then-s-place-clause-looks
returns-then-s-place-clause-looks c = search (rules, looks)

pub returns-in_default-clause-looks : goal.returns-in_default-clause-looks
returns-in_default-clause-looks c = looks_alone c.number-place.ensures.value refl (search rules) c.alone.ensures.alone
