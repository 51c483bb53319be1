-- `decode_term::sort::head` meets its contract, by the laws of heads.
use Rattle.std.proofs.Common.{rules}
use Rattle.std.proofs.lemmas.Result.{err_from_is_err_and}
use borrow.Author.Tests.{not-false}
use Rattle.decode_term.proofs.Laws.Headed.{listed}
use Rattle.decode_term.proofs.Laws.Head.{own_read, heads}
use Rattle.decode_term.proofs.sort.head.Goals as goal

pub returns-in_err-kind : goal.returns-in_err-kind
returns-in_err-kind g c =
    let p = err_from_is_err_and c.from_residual.result c.from_residual.ensures.1 in
    rw (p.1, p.2) (search (rules, heads, c.in_err-kind.was))

pub may_stand-requires : goal.may_stand-requires
may_stand-requires g c = search (rules, listed, c.in_ok-kind.was)

pub returns-then-not-may_stand : goal.returns-then-not-may_stand
returns-then-not-may_stand g c = search (rules, heads, c.in_ok-kind.was)

pub fields_end-requires : goal.fields_end-requires
fields_end-requires g c = search (rules, listed, c.in_ok-kind.was)

pub returns-in_err-end : goal.returns-in_err-end
returns-in_err-end g c =
    let p = err_from_is_err_and c.from_residual-in_err-end.result c.from_residual-in_err-end.ensures.1 in
    rw (p.1, p.2) (search (rules, heads, c.in_ok-kind.was, c.in_err-end.was))

pub returns : goal.returns
returns g c =
    own_read _ _ _ _ _ _ (rw c.KINDS.ensures at c.below.ensures) c.in_ok-kind.was c.may_stand.ensures (search (rules, not-false))
    c.fields_end.ensures c.in_ok-end.was
