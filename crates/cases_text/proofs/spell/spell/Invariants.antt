-- `cases_text::spell::spell` meets its contract: what was made stays within the slice, whose length is kept.
use Rattle.std.proofs.Common.{length, ◌≤◌, ◌≡◌}
use Rattle.cases_text.proofs.spell.spell.Given as goal

abbrev pub invariant-loop-c : goal.invariant-loop-c
invariant-loop-c l = (l.made.len ≤ length l.out) × (length l.out ≡ length l.initial.out)
