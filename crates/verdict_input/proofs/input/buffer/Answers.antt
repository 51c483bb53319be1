-- `verdict_input::input::buffer` meets its contract.
use Rattle.std.proofs.Common.{rules}
use Rattle.verdict_input.proofs.Laws.Input.{inputs}
use Rattle.verdict_input.proofs.input.buffer.Goals as goal

pub returns-then-work-lt-WORK : goal.returns-then-work-lt-WORK
returns-then-work-lt-WORK c = search (rules, inputs)

pub returns : goal.returns
returns c = search (rules, inputs)
