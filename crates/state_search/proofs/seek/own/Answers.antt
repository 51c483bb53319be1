-- `state_search::seek::own` meets its contract.
use Rattle.std.proofs.Common.{rules}
use Rattle.state_search.proofs.Laws.Seek.{own_numbers}
use Rattle.state_prefix.proofs.Laws.Seek.{seeks}
use Rattle.state_search.proofs.seek.own.Goals as goal

pub returns-then-meant-clause-seeks : goal.returns-then-meant-clause-seeks
returns-then-meant-clause-seeks c = search (rules, own_numbers, seeks)

pub returns-clause-seeks : goal.returns-clause-seeks
returns-clause-seeks c = search (rules, own_numbers, seeks)
