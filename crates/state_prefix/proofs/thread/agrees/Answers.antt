-- `state_prefix::thread::agrees` meets its contract.
use Rattle.std.proofs.Common.{rules}
use Rattle.state_prefix.proofs.Laws.Seek.{agreements}
use Rattle.state_prefix.proofs.thread.agrees.Goals as goal

pub returns-else-any : goal.returns-else-any
returns-else-any c = search (rules, agreements)
