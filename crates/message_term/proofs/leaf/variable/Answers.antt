-- `message_term::leaf::variable` meets its contract: its message is found, and copied unless it is too large.
use Rattle.std.proofs.Common.{rules}
use Rattle.message_term.proofs.Laws.Leaf.{leaves}
use Rattle.message_term.proofs.leaf.variable.Goals as goal

pub returns-then-count-gt-LENGTH-clause-variable_worked :
    goal.returns-then-count-gt-LENGTH-clause-variable_worked
returns-then-count-gt-LENGTH-clause-variable_worked c = search (rules, leaves)

pub returns-clause-within : goal.returns-clause-within
returns-clause-within c = search (rules, leaves)

pub returns-clause-variable_worked : goal.returns-clause-variable_worked
returns-clause-variable_worked c = search (rules, leaves)
