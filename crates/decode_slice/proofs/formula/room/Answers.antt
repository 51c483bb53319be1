-- `decode_slice::formula::room` meets its contract.
use Rattle.std.proofs.Common.{rules}
use Rattle.decode_slice.proofs.Laws.Room.{rooms}
use Rattle.decode_slice.proofs.formula.room.Goals as goal

pub returns-then-not-kind : goal.returns-then-not-kind
returns-then-not-kind c = search (rules, rooms)

pub returns-else-not-kind : goal.returns-else-not-kind
returns-else-not-kind c = search (rules, rooms)
