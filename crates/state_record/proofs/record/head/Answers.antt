-- `state_record::record::head` meets its contract: one number after the other.
use Rattle.std.proofs.Common.{rules}
use Rattle.state_record.proofs.Laws.Record.{heads}
use Rattle.state_record.proofs.record.head.Goals as goal

pub returns-clause-head_stands : goal.returns-clause-head_stands
returns-clause-head_stands c = search (rules, heads)
