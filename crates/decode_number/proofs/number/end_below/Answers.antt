-- `decode_number::number::end_below` meets its contract: it tells the end and leaves the value out.
use Rattle.std.proofs.Common.{rules}
use Rattle.decode_number.proofs.Laws.Bounded.{bounds}
use Rattle.decode_number.proofs.number.end_below.Goals as goal

pub returns-in_err-end : goal.returns-in_err-end
returns-in_err-end c = search (rules, bounds)

pub returns : goal.returns
returns c = search (rules, bounds, c.in_ok-end.was)
