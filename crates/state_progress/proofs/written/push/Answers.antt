-- `state_progress::written::push` meets its contract: a state with one record more, or none.
use Rattle.std.proofs.Common.{rules}
use Rattle.state_record.proofs.Laws.Room.{record_rooms}
use Rattle.state_progress.proofs.Laws.Push.{push_bounds, pushes}
use Rattle.state_progress.proofs.written.push.Goals as goal

pub returns-clause-pushes : goal.returns-clause-pushes
returns-clause-pushes c = search (rules, record_rooms, push_bounds, pushes)

pub returns-in_default-clause-pushes : goal.returns-in_default-clause-pushes
returns-in_default-clause-pushes c = search (rules, record_rooms, push_bounds, pushes)
