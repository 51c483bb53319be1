-- The private names of a process are counted: `state_head::count::count`, `by_head` and `both`, for a par, call each other. The measure is the
-- number of process nodes left, three steps to a node.
use Rattle.std.proofs.Common.{rules}
use Rattle.state_progress.proofs.Laws.Progress.{to_ends}
use Rattle.state_head.proofs.Laws.Count.{pars_counted, heads_counted}
use Rattle.state_head.proofs.Laws.Head.{rooms}
use Rattle.buffer.proofs.Laws.Buffer.{unchanged}
use Rattle.state_head.proofs.Laws.Fixed.{fixed_ones}
use Rattle.state_head.proofs.count.+counting.Goals as goal

-- What the answers share.
ruleset shared = (to_ends, pars_counted, rooms, heads_counted, unchanged, fixed_ones)

pub both-returns-clause-counts_if : goal.both-returns-clause-counts_if
both-returns-clause-counts_if t c = search (rules, shared)

pub both-returns-in_err-next-clause-counts_if : goal.both-returns-in_err-next-clause-counts_if
both-returns-in_err-next-clause-counts_if t c = search (rules, shared)

pub by_head-returns-in-Ok-Par-clause-counts :
    goal.by_head-returns-in-Ok-Par-clause-counts
by_head-returns-in-Ok-Par-clause-counts t c = search (rules, shared)

pub by_head-returns-in_err-at-clause-counts : goal.by_head-returns-in_err-at-clause-counts
by_head-returns-in_err-at-clause-counts t c = search (rules, shared)

pub by_head-returns-in-Ok-Par-clause-written_from :
    goal.by_head-returns-in-Ok-Par-clause-written_from
by_head-returns-in-Ok-Par-clause-written_from t c = search (rules, shared)

pub by_head-returns-in_default-2-clause-counts : goal.by_head-returns-in_default-2-clause-counts
by_head-returns-in_default-2-clause-counts t c = search (rules, shared)

pub by_head-returns-in_default : goal.by_head-returns-in_default
by_head-returns-in_default t c = search (rules, shared)
