-- `successor_frame::aliases::appended` meets its contract.
use Rattle.std.proofs.Common.{rules}
use Rattle.successor_frame.proofs.Laws.Aliases.{appendings}
use Rattle.successor_frame.proofs.aliases.appended.Goals as goal

pub returns-then-sends-clause-appended : goal.returns-then-sends-clause-appended
returns-then-sends-clause-appended c = search (rules, appendings)
