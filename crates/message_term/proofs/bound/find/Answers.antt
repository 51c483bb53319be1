-- `message_term::bound::find` meets its contract, by the number that stands where the entry begins.
use Rattle.std.proofs.Common.{rules}
use Rattle.message_term.proofs.Laws.Bound.{lookups}
use Rattle.message_term.proofs.bound.find.Goals as goal

pub returns-then-b-at-clause-found : goal.returns-then-b-at-clause-found
returns-then-b-at-clause-found c = search (rules, lookups)

pub returns-then-b-end-clause-found : goal.returns-then-b-end-clause-found
returns-then-b-end-clause-found c = search (rules, lookups)

pub returns-clause-found : goal.returns-clause-found
returns-clause-found c = search (rules, lookups)
