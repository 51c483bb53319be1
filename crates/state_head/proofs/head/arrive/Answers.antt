-- `state_head::head::arrive` meets its contract: without a node, a byte or room no process stands there.
use Rattle.std.proofs.Common.{rules}
use Rattle.state_head.proofs.Laws.Head.{arrivals}
use Rattle.state_head.proofs.head.arrive.Goals as goal

pub returns-then-left-eq0-clause-arrives : goal.returns-then-left-eq0-clause-arrives
returns-then-left-eq0-clause-arrives c = search (rules, arrivals)

pub returns-then-s-at-clause-arrives : goal.returns-then-s-at-clause-arrives
returns-then-s-at-clause-arrives c = search (rules, arrivals)
