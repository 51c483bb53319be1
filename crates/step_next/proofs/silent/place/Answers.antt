-- `step_next::silent::place` meets its contract.
use Rattle.std.proofs.Common.{rules}
use Rattle.step_next.proofs.Laws.Silent.{places}
use Rattle.step_next.proofs.silent.place.Goals as goal

pub returns-then-mark-eq0 : goal.returns-then-mark-eq0
returns-then-mark-eq0 c = search (rules, places)

pub returns : goal.returns
returns c = search (rules, places)
