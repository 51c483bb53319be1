-- `cases_text::spell::repeat` meets its contract: the length of the slice is kept.
use Rattle.std.proofs.Common.{length, ◌≡◌}
use Rattle.cases_text.proofs.spell.repeat.Given as goal

abbrev pub invariant-loop-i : goal.invariant-loop-i
invariant-loop-i l = length l.out ≡ length l.initial.out
