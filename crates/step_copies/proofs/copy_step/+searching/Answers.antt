-- `step_copies::copy_step::copy_step`, `begin` and `pass` meet their contracts. The measure is the number of bytes of the records to come, and then how
-- many times one copy or two of a repl thread are still looked at.
use Rattle.std.proofs.Common.{rules}
use Rattle.state_progress.proofs.Laws.Progress.{to_ends}
use Rattle.step_copies.proofs.Laws.CopyStep.{passings, joinings, joins_passed}
use Rattle.buffer.proofs.Laws.Buffer.{unchanged}
use Rattle.step_copies.proofs.copy_step.+searching.Goals as goal

pub begin-returns-then-no_silent-clause-next_after_copies :
    goal.begin-returns-then-no_silent-clause-next_after_copies
begin-returns-then-no_silent-clause-next_after_copies t c = search (rules, to_ends, passings, joinings)

pub copy_step-returns-then-to-at-clause-next_in_copies :
    goal.copy_step-returns-then-to-at-clause-next_in_copies
copy_step-returns-then-to-at-clause-next_in_copies t c = search (rules, to_ends, passings, unchanged, joinings)

pub copy_step-returns-then-to-at-lt4-clause-next_in_copies :
    goal.copy_step-returns-then-to-at-lt4-clause-next_in_copies
copy_step-returns-then-to-at-lt4-clause-next_in_copies t c = search (rules, to_ends, passings, joinings)

pub copy_step-returns-then-copy-eq0-clause-next_in_copies :
    goal.copy_step-returns-then-copy-eq0-clause-next_in_copies
copy_step-returns-then-copy-eq0-clause-next_in_copies t c = search (rules, to_ends, passings, joinings)

pub copy_step-returns-in-Some-clause-next_in_copies :
    goal.copy_step-returns-in-Some-clause-next_in_copies
copy_step-returns-in-Some-clause-next_in_copies t c = search (rules, to_ends, passings, joinings)

pub copy_step-returns-clause-next_in_copies :
    goal.copy_step-returns-clause-next_in_copies
copy_step-returns-clause-next_in_copies t c = search (rules, to_ends, joins_passed)

pub pass-returns-then-arity-eq1-clause-next_after_copies :
    goal.pass-returns-then-arity-eq1-clause-next_after_copies
pass-returns-then-arity-eq1-clause-next_after_copies t c = search (rules, to_ends, passings, joinings)

pub pass-returns-then-going-clause-next_after_copies :
    goal.pass-returns-then-going-clause-next_after_copies
pass-returns-then-going-clause-next_after_copies t c = search (rules, to_ends, passings, joinings)

pub pass-returns-clause-next_after_copies : goal.pass-returns-clause-next_after_copies
pass-returns-clause-next_after_copies t c = search (rules, to_ends, passings, joinings)
