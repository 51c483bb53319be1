-- `message_term::field::read` meets its contract: the number that was read before, if one was.
use Rattle.std.proofs.Common.{rules}
use Rattle.message_term.proofs.Laws.Field.{read_again}
use Rattle.message_term.proofs.field.read.Goals as goal

pub returns-clause-field_at : goal.returns-clause-field_at
returns-clause-field_at c = search (rules, read_again)
