-- `cases_text::text::number` meets its contract: the number stays below ten thousand million.
use Rattle.std.proofs.Common.{◌<◌}
use Rattle.cases_text.proofs.text.number.Given as goal

abbrev pub invariant-loop-c : goal.invariant-loop-c
invariant-loop-c l = l.n < 10000000000
