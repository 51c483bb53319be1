-- `state_prefix::thread::seek` meets its contract: an offer that is looked at.
use Rattle.std.proofs.Common.{rules}
use Rattle.state_prefix.proofs.Laws.Seek.{seeks, found_extends}
use Rattle.state_prefix.proofs.thread.seek.Goals as goal

pub returns-then-meant-clause-seeks : goal.returns-then-meant-clause-seeks
returns-then-meant-clause-seeks c = search (rules, seeks, found_extends)

pub returns-clause-seeks : goal.returns-clause-seeks
returns-clause-seeks c = search (rules, seeks, found_extends)
