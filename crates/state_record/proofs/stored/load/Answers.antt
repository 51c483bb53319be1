-- `state_record::stored::load` meets its contract: the two numbers, and then the messages.
use Rattle.std.proofs.Common.{rules}
use Rattle.buffer.proofs.Laws.Buffer.{unchanged}
use Rattle.state_record.proofs.Laws.Stored.{loads, loaded_within}
use Rattle.state_record.proofs.stored.load.Goals as goal

pub returns-then-m-size-clause-loads : goal.returns-then-m-size-clause-loads
returns-then-m-size-clause-loads c = search (rules, unchanged, loads, loaded_within)

pub returns-then-out-at-clause-loads : goal.returns-then-out-at-clause-loads
returns-then-out-at-clause-loads c = search (rules, unchanged, loads, loaded_within)

pub returns-clause-loads : goal.returns-clause-loads
returns-clause-loads c = search (rules, loads)
