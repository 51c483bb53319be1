-- `state_record::record::write` meets its contract: the numbers, and then the messages.
use Rattle.std.proofs.Common.{rules}
use Rattle.state_record.proofs.Laws.Record.{records}
use Rattle.state_record.proofs.record.write.Goals as goal

pub returns-clause-within : goal.returns-clause-within
returns-clause-within c = search (rules, records)

pub returns-clause-written : goal.returns-clause-written
returns-clause-written c = search (rules, records)
