-- `decode_term::sort::read` meets its contract. The measure of the calls and of the loop is the number of nodes left. The loop knows that
-- the tree asked for has the extent of the one at hand, and what holds on every path.
use Rattle.std.proofs.Common.{rules, ap, ◌∙◌, arith}
use Rattle.std.proofs.lemmas.Result.{err_from_is_err_and}
use Rattle.decode_term.proofs.Laws.Headed.{kind_listed, left_falls, part_falls, part_below, stands}
use Rattle.decode_term.proofs.Laws.Node.{no_head, no_parts, one_part, two_parts, first_refused}
use Rattle.decode_term.proofs.sort.+read.Goals as goal

pub loop-kind-init : goal.loop-kind-init
loop-kind-init g t c = (c.requires.1.shape _ _ _, c.requires.0, omega arith)

pub returns-in_err-kind : goal.returns-in_err-kind
returns-in_err-kind g t c =
    let p = err_from_is_err_and c.from_residual.result c.from_residual.ensures.1 in
    rw (p.1, p.2) (no_head _ _ _ c.loop-kind.invariant.0 c.head.ensures c.in_err-kind.was)

pub parts_of-parts-requires : goal.parts_of-parts-requires
parts_of-parts-requires g t c = kind_listed _ _ _ _ _ _ c.head.ensures c.in_ok-kind.was

pub returns-then-parts-eq0 : goal.returns-then-parts-eq0
returns-then-parts-eq0 g t c =
    no_parts _ _ _ c.loop-kind.invariant.0 c.head.ensures c.in_ok-kind.was c.parts_of-parts.ensures (search rules)

pub to_part-first-requires : goal.to_part-first-requires
to_part-first-requires g t c =
    (kind_listed _ _ _ _ _ _ c.head.ensures c.in_ok-kind.was, c.loop-kind.invariant.1, stands _ _ _ _ _ _ c.head.ensures c.in_ok-kind.was)

pub read-requires : goal.read-requires
read-requires g t c κs within =
    let less = ap g.S.Sort.left c.to_part-first.ensures.path ∙ c.requires.1.falls _ _ in
    let falls = part_falls _ _ _ _ _ _ c.head.ensures c.in_ok-kind.was less c.loop-kind.invariant.2 c.decreases in
    (falls, (within, (c.to_part-first.ensures.still, c.requires.1)))

pub returns-in_err-i : goal.returns-in_err-i
returns-in_err-i g t c =
    let p = err_from_is_err_and c.from_residual-in_err-i.result c.from_residual-in_err-i.ensures.1 in
    let part = rw c.to_part-first.ensures.path at c.read.ensures in
    rw (p.1, p.2) (first_refused _ _ _ c.loop-kind.invariant.0 c.head.ensures c.in_ok-kind.was c.parts_of-parts.ensures
    c.if-parts-eq2.true part c.in_err-i.was)

pub to_part-inner-requires : goal.to_part-inner-requires
to_part-inner-requires g t c =
    (kind_listed _ _ _ _ _ _ c.head.ensures c.in_ok-kind.was, c.loop-kind.invariant.1, stands _ _ _ _ _ _ c.head.ensures c.in_ok-kind.was)

pub loop-kind-smaller-then-parts-eq2 : goal.loop-kind-smaller-then-parts-eq2
loop-kind-smaller-then-parts-eq2 g t c =
    let less = ap g.S.Sort.left c.to_part-inner.ensures.path ∙ c.requires.1.falls _ _ in
    let falls = left_falls _ _ _ _ _ _ c.head.ensures c.in_ok-kind.was less in
    search (rules, falls)

pub loop-kind-preserved-then-parts-eq2 : goal.loop-kind-preserved-then-parts-eq2
loop-kind-preserved-then-parts-eq2 g t c =
    let path = c.to_part-inner.ensures.path in
    let less = ap g.S.Sort.left path ∙ c.requires.1.falls _ _ in
    let part = rw c.to_part-first.ensures.path at c.read.ensures in
    let below = part_below _ _ _ _ _ _ c.head.ensures c.in_ok-kind.was less c.loop-kind.invariant.2 in
    let last = ap (λ p. g.S.Sort.tree p c.args.s.now c.in_ok-i.i) path in (
      two_parts _ _ _ c.loop-kind.invariant.0 c.head.ensures c.in_ok-kind.was c.parts_of-parts.ensures c.if-parts-eq2.true part c.in_ok-i.was last
          ∙ c.requires.1.shape _ _ _,
      search (rules, c.to_part-inner.ensures.still),
      search (rules, below),
    )

pub loop-kind-smaller : goal.loop-kind-smaller
loop-kind-smaller g t c =
    left_falls _ _ _ _ _ _ c.head.ensures c.in_ok-kind.was (ap g.S.Sort.left c.to_part-inner.ensures.path ∙ c.requires.1.falls _ _)

pub loop-kind-preserved : goal.loop-kind-preserved
loop-kind-preserved g t c =
    let path = c.to_part-inner.ensures.path in
    let less = ap g.S.Sort.left path ∙ c.requires.1.falls _ _ in
    let last = ap (λ p. g.S.Sort.tree p c.args.s.now c.in_ok-kind.kind.end) path in (
      one_part _ _ _ c.loop-kind.invariant.0 c.head.ensures c.in_ok-kind.was c.parts_of-parts.ensures
          (rw c.parts_of-parts.ensures (c.requires.1.few _)) (search rules) (search rules) last
          ∙ c.requires.1.shape _ _ _,
      c.to_part-inner.ensures.still,
      part_below _ _ _ _ _ _ c.head.ensures c.in_ok-kind.was less c.loop-kind.invariant.2,
    )
