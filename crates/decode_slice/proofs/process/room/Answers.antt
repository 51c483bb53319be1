-- `decode_slice::process::room` meets its contract.
use Rattle.std.proofs.Common.{rules}
use Rattle.decode_slice.proofs.Laws.Room.{rooms}
use Rattle.decode_slice.proofs.process.room.Goals as goal

pub returns-then-kind-eq0 : goal.returns-then-kind-eq0
returns-then-kind-eq0 c = search (rules, rooms)

pub returns-else-kind-eq0 : goal.returns-else-kind-eq0
returns-else-kind-eq0 c = search (rules, rooms)
