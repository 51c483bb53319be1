-- `message_term::work::work`, `node`, `first` and `rest` meet their contracts: leaves first, then a node over its parts. The measure is
-- the number of term nodes left, three steps to a node. In `rest` two ways meet, with a second part and without one.
use Rattle.std.proofs.Common.{rules, ap}
use Rattle.message_term.proofs.Laws.Room.{first_within, node_rooms, rest_within, rest_withins, end_above, end_within, none_room, term_rooms}
use Rattle.message_term.proofs.Laws.Inner.{behind_kind, firsts, joins}
use Rattle.buffer.proofs.Laws.Buffer.{unchanged}
use Rattle.message_term.proofs.Laws.Leaf.{no_reach}
use Rattle.message_term.proofs.Laws.Work.{works}
use Rattle.message_term.proofs.work.+working.Goals as goal
use Rattle.message_term.proofs.work.+working.Goals.{
  rest-then-parts-eq1,
  rest-else-parts-eq1+in_ok-last,
}

-- What the answers share.
ruleset shared = (first_within, node_rooms, rest_within, firsts, rest_withins, joins, works, term_rooms)

pub first-returns-clause-within : goal.first-returns-clause-within
first-returns-clause-within t c = search (rules, shared)

pub first-returns-clause-first_worked : goal.first-returns-clause-first_worked
first-returns-clause-first_worked t c = search (rules, shared, behind_kind, end_above, end_within, none_room, unchanged, no_reach)

pub node-returns-clause-within : goal.node-returns-clause-within
node-returns-clause-within t c = search (rules, shared)

pub node-returns-clause-node_worked : goal.node-returns-clause-node_worked
node-returns-clause-node_worked t c = search (rules, shared, behind_kind, end_above, end_within, none_room, unchanged, no_reach)

pub node-returns-in_err-next-clause-node_worked : goal.node-returns-in_err-next-clause-node_worked
node-returns-in_err-next-clause-node_worked t c = search (rules, shared, behind_kind, end_above, end_within, none_room, unchanged, no_reach)

pub rest-returns-in_err-last-clause-second_worked :
    goal.rest-returns-in_err-last-clause-second_worked
rest-returns-in_err-last-clause-second_worked t c = search (rules, shared, behind_kind, end_above, end_within, none_room, unchanged, no_reach)

pub rest-returns-clause-within : goal.rest-returns-clause-within
rest-returns-clause-within t c =
    elim c.if-parts-eq1.branch [
      | rest-then-parts-eq1 w ↦ search (rules, rest_withins)
      | rest-else-parts-eq1+in_ok-last w ↦ search (rules, rest_withins, w.in_ok-last.was, ap (λ x. x.end) w.last-is)
    ]

pub rest-returns-clause-second_worked : goal.rest-returns-clause-second_worked
rest-returns-clause-second_worked t c =
    elim c.if-parts-eq1.branch [
      | rest-then-parts-eq1 w ↦ search (rules, joins)
      | rest-else-parts-eq1+in_ok-last w ↦
          search (rules, joins, w.in_ok-last.was, ap (λ x. x.next) w.last-is, ap (λ x. x.end) w.last-is)
    ]

pub work-returns-then-left-eq0-clause-works : goal.work-returns-then-left-eq0-clause-works
work-returns-then-left-eq0-clause-works t c = search (rules, shared, behind_kind, end_above, end_within, none_room, unchanged, no_reach)

pub work-returns-then-s-at-clause-works : goal.work-returns-then-s-at-clause-works
work-returns-then-s-at-clause-works t c = search (rules, node_rooms, firsts, rest_withins, joins, end_above, works, term_rooms)

pub work-returns-then-kind-clause-within : goal.work-returns-then-kind-clause-within
work-returns-then-kind-clause-within t c = search (rules, node_rooms, firsts, rest_withins, joins, works, term_rooms)

pub work-returns-then-kind-clause-works : goal.work-returns-then-kind-clause-works
work-returns-then-kind-clause-works t c = search (rules, shared, behind_kind, end_above, end_within, none_room, unchanged, no_reach)

pub work-returns-then-kind-2-clause-within : goal.work-returns-then-kind-2-clause-within
work-returns-then-kind-2-clause-within t c = search (rules, node_rooms, firsts, rest_withins, joins, works, term_rooms)

pub work-returns-then-kind-2-clause-works : goal.work-returns-then-kind-2-clause-works
work-returns-then-kind-2-clause-works t c = search (rules, shared, behind_kind, end_above, end_within, none_room, unchanged, no_reach)

pub work-returns-clause-works : goal.work-returns-clause-works
work-returns-clause-works t c = search (rules, shared, behind_kind, end_above, end_within, none_room, unchanged, no_reach)
