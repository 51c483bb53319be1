-- `decode_term::term::fields` meets its contract, term by term. The measure is the number of terms to come.
use Rattle.std.proofs.Common.{rules, arith}
use Rattle.std.proofs.lemmas.Result.{err_from_is_err_and}
use Rattle.decode_term.proofs.Laws.Node.{rows}
use Rattle.decode_term.proofs.Laws.Terms.{terms}
use Rattle.decode_term.proofs.term.+fields.Goals as goal

pub returns-then-count-eq0 : goal.returns-then-count-eq0
returns-then-count-eq0 t c = search (rules, rows)

pub returns-in_err-next : goal.returns-in_err-next
returns-in_err-next t c =
    let p = err_from_is_err_and c.from_residual.result c.from_residual.ensures.1 in
    rw (p.1, p.2) (search (rules, rows, c.in_err-next.was))

pub read_within-requires : goal.read_within-requires
read_within-requires t c = (tt, terms, omega arith)

pub returns : goal.returns
returns t c = search (rules, rows, c.in_ok-next.was)
