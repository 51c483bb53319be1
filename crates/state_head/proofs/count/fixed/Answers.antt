-- `state_head::count::fixed` meets its contract.
use Rattle.std.proofs.Common.{rules}
use Rattle.state_head.proofs.Laws.Fixed.{fixed_ones}
use Rattle.state_head.proofs.count.fixed.Goals as goal

pub returns : goal.returns
returns c = search (rules, fixed_ones)
