-- The traversal of a process meets its contract: `state_traversal::traverse::traverse` and the functions for each kind of process and for the copies of a repl
-- thread call each other. The measure is the number of process nodes left, twelve steps to a node.
use Rattle.std.proofs.Common.{rules}
use Rattle.state_progress.proofs.Laws.Progress.{extensions, to_ends, records_ends, to_end_bound}
use Rattle.state_head.proofs.Laws.Prefix.{located_offers, followed, prefixes, receipts}
use Rattle.buffer.proofs.Laws.Buffer.{unchanged}
use Rattle.state_head.proofs.Laws.Traverse.{par_traversed, nodes, traverses}
use Rattle.state_head.proofs.Laws.Copy.{copies, names_back}
use Rattle.state_traversal.proofs.Laws.Repl.{opens, pairs, performances, repls}
use Rattle.state_head.proofs.Laws.Head.{rooms}
use Rattle.state_traversal.proofs.traverse.+traversing.Goals as goal

-- What the answers share.
ruleset shared = (extensions, to_ends, records_ends, located_offers, copies, opens, nodes, prefixes, receipts, traverses, rooms)

pub act-returns-then-at-sender-clause-acts_as : goal.act-returns-then-at-sender-clause-acts_as
act-returns-then-at-sender-clause-acts_as t c = search (rules, shared)

pub act-returns-then-at-taker-clause-acts_as : goal.act-returns-then-at-taker-clause-acts_as
act-returns-then-at-taker-clause-acts_as t c = search (rules, shared)

pub act-returns-clause-acts_as : goal.act-returns-clause-acts_as
act-returns-clause-acts_as t c = search (rules, shared)

pub both-returns-clause-leaves : goal.both-returns-clause-leaves
both-returns-clause-leaves t c = search (rules, shared, unchanged, par_traversed, followed, names_back, pairs, performances, to_end_bound, repls)

pub both-returns-clause-traverses_if : goal.both-returns-clause-traverses_if
both-returns-clause-traverses_if t c = search (rules, shared, par_traversed)

pub copy-returns-clause-opens : goal.copy-returns-clause-opens
copy-returns-clause-opens t c = search (rules, shared)

pub copy-returns-in_default-clause-opens : goal.copy-returns-in_default-clause-opens
copy-returns-in_default-clause-opens t c = search (rules, shared)

pub enter-returns-in-Again-clause-opens_by : goal.enter-returns-in-Again-clause-opens_by
enter-returns-in-Again-clause-opens_by t c = search (rules, shared)

pub node-returns-then-kind-clause-head_traverses :
    goal.node-returns-then-kind-clause-head_traverses
node-returns-then-kind-clause-head_traverses t c = search (rules, shared)

pub node-returns-clause-head_traverses : goal.node-returns-clause-head_traverses
node-returns-clause-head_traverses t c = search (rules, shared)

pub pair-returns-clause-leaves : goal.pair-returns-clause-leaves
pair-returns-clause-leaves t c = search (rules, shared, unchanged, par_traversed, followed, names_back, pairs, performances, to_end_bound, repls)

pub pair-returns-clause-opens_both : goal.pair-returns-clause-opens_both
pair-returns-clause-opens_both t c = search (rules, shared, pairs)

pub perform-returns-clause-leaves : goal.perform-returns-clause-leaves
perform-returns-clause-leaves t c = search (rules, shared, unchanged, par_traversed, followed, names_back, pairs, performances, to_end_bound, repls)

pub perform-returns-clause-performs : goal.perform-returns-clause-performs
perform-returns-clause-performs t c = search (rules, shared, performances)

pub prefix-returns-in-Count-clause-at_prefix : goal.prefix-returns-in-Count-clause-at_prefix
prefix-returns-in-Count-clause-at_prefix t c = search (rules, shared)

pub prefix-returns-in-Judge-clause-at_prefix : goal.prefix-returns-in-Judge-clause-at_prefix
prefix-returns-in-Judge-clause-at_prefix t c = search (rules, shared)

pub prefix-returns-in-Settle-clause-at_prefix : goal.prefix-returns-in-Settle-clause-at_prefix
prefix-returns-in-Settle-clause-at_prefix t c = search (rules, shared)

pub prefix-returns-in-Seek-clause-at_prefix : goal.prefix-returns-in-Seek-clause-at_prefix
prefix-returns-in-Seek-clause-at_prefix t c = search (rules, shared)

pub prefix-returns-in-SeekIn-clause-at_prefix : goal.prefix-returns-in-SeekIn-clause-at_prefix
prefix-returns-in-SeekIn-clause-at_prefix t c = search (rules, shared)

pub prefix-returns-in-Find-clause-at_prefix : goal.prefix-returns-in-Find-clause-at_prefix
prefix-returns-in-Find-clause-at_prefix t c = search (rules, shared)

pub prefix-returns-in-Build-clause-at_prefix : goal.prefix-returns-in-Build-clause-at_prefix
prefix-returns-in-Build-clause-at_prefix t c = search (rules, shared)

pub prefix-returns-in-BuildIn-clause-at_prefix : goal.prefix-returns-in-BuildIn-clause-at_prefix
prefix-returns-in-BuildIn-clause-at_prefix t c = search (rules, shared)

pub receive-returns-clause-receives : goal.receive-returns-clause-receives
receive-returns-clause-receives t c = search (rules, shared)

pub repl-returns-clause-leaves : goal.repl-returns-clause-leaves
repl-returns-clause-leaves t c = search (rules, shared, unchanged, par_traversed, followed, names_back, pairs, performances, to_end_bound, repls)

pub repl-returns-clause-traverses_if : goal.repl-returns-clause-traverses_if
repl-returns-clause-traverses_if t c = search (rules, shared, repls)

pub traverse-returns-clause-written_from : goal.traverse-returns-clause-written_from
traverse-returns-clause-written_from t c = search (rules, shared, c.in-Some.ensures.left_le_left)

pub traverse-returns-clause-traverses :
    goal.traverse-returns-clause-traverses
traverse-returns-clause-traverses t c = search (rules, shared, c.in-Some.ensures.left_le_left.0, c.in-Some.ensures.settled)

pub traverse-returns-in_default-clause-traverses : goal.traverse-returns-in_default-clause-traverses
traverse-returns-in_default-clause-traverses t c = search (rules, shared)
