-- `successor_rebuild::kind::acts` meets its contract.
use Rattle.std.proofs.Common.{rules, refl}
use Rattle.successor_rebuild.proofs.Laws.Kind.{acts_not, acts_so}
use Rattle.successor_rebuild.proofs.kind.acts.Goals as goal

pub returns-after-matches : goal.returns-after-matches
returns-after-matches c = acts_so c.number-place.ensures.value refl (search rules)

pub returns-else-place-s : goal.returns-else-place-s
returns-else-place-s c = search (rules, acts_not, acts_so)
