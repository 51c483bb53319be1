-- `successor_frame::aliases::carry` meets its contract.
use Rattle.std.proofs.Common.{rules}
use Rattle.successor_frame.proofs.Laws.Aliases.{carried}
use Rattle.successor_frame.proofs.aliases.carry.Goals as goal

pub returns-clause-carries : goal.returns-clause-carries
returns-clause-carries c = search (rules, carried)
