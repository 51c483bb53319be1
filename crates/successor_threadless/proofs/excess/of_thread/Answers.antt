-- `successor_threadless::excess::of_thread` meets its contract.
use Rattle.std.proofs.Common.{rules}
use Rattle.successor_threadless.proofs.Laws.Excess.{openings}
use Rattle.successor_threadless.proofs.excess.of_thread.Goals as goal

pub returns-then-acts : goal.returns-then-acts
returns-then-acts c = search (rules, openings)

pub returns : goal.returns
returns c = search (rules, openings)
