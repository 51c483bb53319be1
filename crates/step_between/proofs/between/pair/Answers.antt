-- `step_between::between::pair` meets its contract.
use Rattle.std.proofs.Common.{rules}
use Rattle.step_between.proofs.Laws.BetweenOnward.{pairs}
use Rattle.step_between.proofs.between.pair.Goals as goal

pub returns-clause-pairs : goal.returns-clause-pairs
returns-clause-pairs c =
    let handed = c.hand-handed.ensures in
    search (rules, pairs {now = c.args.sender} handed.hands handed.same_length handed.same_length_2 c.take.ensures.takes)
