-- `cases_text::hex::spell` meets its contract: what was spelled stays within the slice, whose length is kept.
use Rattle.std.proofs.Common.{length, ◌≤◌, ◌≡◌}
use Rattle.cases_text.proofs.hex.spell.Given as goal

abbrev pub invariant-loop-c : goal.invariant-loop-c
invariant-loop-c l = (l.len ≤ length l.out) × (length l.out ≡ length l.initial.out)
