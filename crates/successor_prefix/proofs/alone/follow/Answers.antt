-- `successor_prefix::alone::follow` meets its contract.
use Rattle.std.proofs.Common.{rules}
use Rattle.state_progress.proofs.Laws.Progress.{extensions, to_ends}
use Rattle.successor_prefix.proofs.Laws.Alone.{followings}
use Rattle.successor_prefix.proofs.alone.follow.Goals as goal

pub returns-then-to-lt4-clause-continues_thread : goal.returns-then-to-lt4-clause-continues_thread
returns-then-to-lt4-clause-continues_thread c = search (rules, extensions, to_ends, followings)

pub returns-then-to-at-clause-continues_thread : goal.returns-then-to-at-clause-continues_thread
returns-then-to-at-clause-continues_thread c = search (rules, extensions, to_ends, followings)
