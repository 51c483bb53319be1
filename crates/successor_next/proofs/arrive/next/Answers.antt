-- `successor_next::arrive::next` meets its contract.
use Rattle.std.proofs.Common.{rules}
use Rattle.successor_next.proofs.Laws.Arrive.{arrives_none, arrives_by}
use Rattle.successor_next.proofs.arrive.next.Goals as goal

pub returns-clause-arrives : goal.returns-clause-arrives
returns-clause-arrives c =
    let next = c.next.ensures in
    arrives_by next.nexts c.in_ok-found.was next.written_from next.written_from_2 c.led-formed.ensures.leaves

pub returns-in_err-found-clause-arrives : goal.returns-in_err-found-clause-arrives
returns-in_err-found-clause-arrives c = search (rules, arrives_none)
