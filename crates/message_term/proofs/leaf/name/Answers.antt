-- `message_term::leaf::name` meets its contract: the number of the name is written.
use Rattle.std.proofs.Common.{rules}
use Rattle.message_term.proofs.Laws.Leaf.{leaves}
use Rattle.message_term.proofs.leaf.name.Goals as goal

pub returns-clause-name_worked : goal.returns-clause-name_worked
returns-clause-name_worked c = search (rules, leaves)
