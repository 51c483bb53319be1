-- `successor_threadless::threadless::follow` meets its contract.
use Rattle.std.proofs.Common.{rules}
use Rattle.state_progress.proofs.Laws.Progress.{extensions, to_ends}
use Rattle.successor_threadless.proofs.Laws.Threadless.{followings}
use Rattle.successor_threadless.proofs.threadless.follow.Goals as goal

pub returns-then-state-lt4-clause-follows_offer : goal.returns-then-state-lt4-clause-follows_offer
returns-then-state-lt4-clause-follows_offer c = search (rules, extensions, to_ends, followings)

pub returns-then-state-at-clause-follows_offer : goal.returns-then-state-at-clause-follows_offer
returns-then-state-at-clause-follows_offer c = search (rules, extensions, to_ends, followings)

pub returns-clause-follows_offer : goal.returns-clause-follows_offer
returns-clause-follows_offer c = search (rules, extensions, to_ends, followings)
