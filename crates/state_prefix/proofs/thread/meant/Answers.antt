-- `state_prefix::thread::meant` meets its contract.
use Rattle.std.proofs.Common.{rules}
use Rattle.state_prefix.proofs.Laws.Seek.{eligibles}
use Rattle.state_prefix.proofs.thread.meant.Goals as goal

pub returns-then-at-quest : goal.returns-then-at-quest
returns-then-at-quest c = search (rules, eligibles)

pub returns-then-at-quest-2 : goal.returns-then-at-quest-2
returns-then-at-quest-2 c = search (rules, eligibles)

pub returns-then-kind-eq-OUTPUT : goal.returns-then-kind-eq-OUTPUT
returns-then-kind-eq-OUTPUT c = search (rules, eligibles)

pub returns : goal.returns
returns c = search (rules, eligibles)
