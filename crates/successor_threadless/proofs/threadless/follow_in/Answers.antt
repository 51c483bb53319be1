-- `successor_threadless::threadless::follow_in` meets its contract.
use Rattle.std.proofs.Common.{rules}
use Rattle.state_progress.proofs.Laws.Progress.{extensions, to_ends}
use Rattle.successor_threadless.proofs.Laws.Threadless.{followings_in}
use Rattle.successor_threadless.proofs.threadless.follow_in.Goals as goal

pub returns-then-state-lt4-clause-follows_in : goal.returns-then-state-lt4-clause-follows_in
returns-then-state-lt4-clause-follows_in c = search (rules, extensions, to_ends, followings_in)

pub returns-then-state-at-clause-follows_in : goal.returns-then-state-at-clause-follows_in
returns-then-state-at-clause-follows_in c = search (rules, extensions, to_ends, followings_in)

pub returns-clause-follows_in : goal.returns-clause-follows_in
returns-clause-follows_in c = search (rules, extensions, to_ends, followings_in)
