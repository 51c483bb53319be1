-- The traversal that seeks an offer meets its contract: `state_search::seek::seek` and the functions for a par, a repl thread and its copy call each
-- other. The measure is the number of process nodes left, three steps to a node.
use Rattle.std.proofs.Common.{rules, ◌≡◌, get_or}
use Rattle.state_progress.proofs.Laws.Progress.{to_ends}
use Rattle.state_search.proofs.Laws.Seek.{pars_sought, copies_sought, repls_sought, heads_sought}
use Rattle.state_head.proofs.Laws.Head.{rooms}
use Rattle.state_search.proofs.seek.+seeking.Goals as goal

-- What the answers share.
ruleset shared = (to_ends, pars_sought, copies_sought, repls_sought, rooms, heads_sought)

pub both-returns-in-On-clause-seek_traverses_if : goal.both-returns-in-On-clause-seek_traverses_if
both-returns-in-On-clause-seek_traverses_if t c = search (rules, shared)

pub both-returns-in-Ended-clause-seek_traverses_if :
    goal.both-returns-in-Ended-clause-seek_traverses_if
both-returns-in-Ended-clause-seek_traverses_if t c = search (rules, shared)

pub copy-returns-clause-seek_opens : goal.copy-returns-clause-seek_opens
copy-returns-clause-seek_opens t c = search (rules, shared)

pub copy-returns-in_default-clause-seek_opens : goal.copy-returns-in_default-clause-seek_opens
copy-returns-in_default-clause-seek_opens t c = search (rules, shared)

pub repl-returns-then-contains-clause-seek_traverses_if :
    goal.repl-returns-then-contains-clause-seek_traverses_if
repl-returns-then-contains-clause-seek_traverses_if t c = search (rules, shared)

pub repl-returns-clause-seek_traverses_if : goal.repl-returns-clause-seek_traverses_if
repl-returns-clause-seek_traverses_if t c = search (rules, shared)

pub seek-returns-in-Ok-Nil-clause-seek_traverses :
    goal.seek-returns-in-Ok-Nil-clause-seek_traverses
seek-returns-in-Ok-Nil-clause-seek_traverses t c = search (rules, shared)

pub seek-returns-in-Ok-Par-clause-written_from :
    goal.seek-returns-in-Ok-Par-clause-written_from
seek-returns-in-Ok-Par-clause-written_from t c = search (rules, shared, c.in-Some.ensures.left_le_left)

pub seek-returns-in-Ok-Par-clause-seek_traverses :
    goal.seek-returns-in-Ok-Par-clause-seek_traverses
seek-returns-in-Ok-Par-clause-seek_traverses t c =
    let is_par : get_or c.args.s.now c.in-Some.head.at 0 ≡ 6 = search rules in
    search (rules, shared, c.in-Some.ensures.left_le_left.0, c.in-Some.ensures.settled, is_par)

pub seek-returns-in-Ok-Repl-clause-written_from :
    goal.seek-returns-in-Ok-Repl-clause-written_from
seek-returns-in-Ok-Repl-clause-written_from t c = search (rules, shared, c.in-Some.ensures.left_le_left)

pub seek-returns-in-Ok-Repl-clause-seek_traverses :
    goal.seek-returns-in-Ok-Repl-clause-seek_traverses
seek-returns-in-Ok-Repl-clause-seek_traverses t c =
    let is_repl : get_or c.args.s.now c.in-Some.head.at 0 ≡ 7 = search rules in
    search (rules, shared, c.in-Some.ensures.left_le_left.0, c.in-Some.ensures.settled, is_repl)

pub seek-returns-in_default-try_from-clause-written_from :
    goal.seek-returns-in_default-try_from-clause-written_from
seek-returns-in_default-try_from-clause-written_from t c = search (rules, shared, c.in-Some.ensures.left_le_left)

pub seek-returns-in_default-try_from-clause-seek_traverses :
    goal.seek-returns-in_default-try_from-clause-seek_traverses
seek-returns-in_default-try_from-clause-seek_traverses t c =
    let not_nil : get_or c.args.s.now c.in-Some.head.at 0 ≡ 0 → ⊥ = λ e. search rules in
    let not_par : get_or c.args.s.now c.in-Some.head.at 0 ≡ 6 → ⊥ = λ e. search rules in
    let not_repl : get_or c.args.s.now c.in-Some.head.at 0 ≡ 7 → ⊥ = λ e. search rules in
    search (rules, shared, c.in-Some.ensures.left_le_left.0, c.in-Some.ensures.settled, not_nil, not_par, not_repl)

pub seek-returns-in_default-clause-seek_traverses : goal.seek-returns-in_default-clause-seek_traverses
seek-returns-in_default-clause-seek_traverses t c = search (rules, shared)
