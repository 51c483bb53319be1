-- The traversal that builds meets its contract: `state_build::build::build` and the functions for a head, a par, a repl thread and its copy call each
-- other. The measure is the number of process nodes left, seven steps to a node.
use Rattle.std.proofs.Common.{rules}
use Rattle.state_progress.proofs.Laws.Progress.{extensions, to_ends, records_ends}
use Rattle.state_head.proofs.Laws.Traverse.{par_traversed, traverses, nodes}
use Rattle.buffer.proofs.Laws.Buffer.{unchanged}
use Rattle.state_head.proofs.Laws.Head.{rooms}
use Rattle.state_build.proofs.Laws.Build.{copy_built, builts, is_act, repl_built}
use Rattle.state_head.proofs.Laws.Copy.{copies, names_back}
use Rattle.state_build.proofs.build.+building.Goals as goal

-- What the answers share.
ruleset shared = (extensions, to_ends, records_ends, traverses, rooms, copies, builts, nodes)

pub both-returns-clause-leaves : goal.both-returns-clause-leaves
both-returns-clause-leaves t c = search (rules, shared, par_traversed, unchanged, copy_built, names_back, is_act, repl_built)

pub both-returns-clause-traverses_if : goal.both-returns-clause-traverses_if
both-returns-clause-traverses_if t c = search (rules, shared, par_traversed)

pub build-returns-clause-written_from : goal.build-returns-clause-written_from
build-returns-clause-written_from t c = search (rules, shared, c.in-Some.ensures.left_le_left)

pub build-returns-clause-traverses : goal.build-returns-clause-traverses
build-returns-clause-traverses t c = search (rules, shared, c.in-Some.ensures.left_le_left.0, c.in-Some.ensures.settled)

pub build-returns-in_default-clause-traverses : goal.build-returns-in_default-clause-traverses
build-returns-in_default-clause-traverses t c = search (rules, shared)

pub copy-returns-clause-opens : goal.copy-returns-clause-opens
copy-returns-clause-opens t c = search (rules, shared, copy_built)

pub copy-returns-in_default-clause-opens : goal.copy-returns-in_default-clause-opens
copy-returns-in_default-clause-opens t c = search (rules, shared, copy_built)

pub enter-returns-then-contains-clause-opens_built :
    goal.enter-returns-then-contains-clause-opens_built
enter-returns-then-contains-clause-opens_built t c = search (rules, shared)

pub enter-returns-then-sender-eq0-clause-opens_built :
    goal.enter-returns-then-sender-eq0-clause-opens_built
enter-returns-then-sender-eq0-clause-opens_built t c = search (rules, shared)

pub enter-returns-then-contains-2-clause-opens_built :
    goal.enter-returns-then-contains-2-clause-opens_built
enter-returns-then-contains-2-clause-opens_built t c = search (rules, shared)

pub enter-returns-clause-opens_built : goal.enter-returns-clause-opens_built
enter-returns-clause-opens_built t c = search (rules, shared)

pub node-returns-then-kind-clause-head_traverses :
    goal.node-returns-then-kind-clause-head_traverses
node-returns-then-kind-clause-head_traverses t c = search (rules, shared, is_act)

pub node-returns-clause-head_traverses : goal.node-returns-clause-head_traverses
node-returns-clause-head_traverses t c = search (rules, shared, is_act)

pub repl-returns-clause-leaves : goal.repl-returns-clause-leaves
repl-returns-clause-leaves t c = search (rules, shared, par_traversed, unchanged, copy_built, names_back, is_act, repl_built)

pub repl-returns-clause-traverses_if : goal.repl-returns-clause-traverses_if
repl-returns-clause-traverses_if t c = search (rules, shared, repl_built)
