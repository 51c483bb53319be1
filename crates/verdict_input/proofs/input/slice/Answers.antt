-- `verdict_input::input::slice` meets its contract, by what was read.
use Rattle.std.proofs.Common.{rules}
use Rattle.verdict_input.proofs.Laws.Input.{place_fits, inputs}
use Rattle.verdict_input.proofs.input.slice.Goals as goal

pub overflow_cast-place : goal.overflow_cast-place
overflow_cast-place c = search (rules, place_fits)

pub returns-in-Ok : goal.returns-in-Ok
returns-in-Ok c = search (rules, inputs)

pub returns-in-Err : goal.returns-in-Err
returns-in-Err c = search (rules, inputs)
