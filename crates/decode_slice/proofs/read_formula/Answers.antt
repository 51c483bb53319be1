-- `decode_slice::read_formula` meets its contract: a slice that is too long, or the answer of `sort::read_within` up to the slice's end.
use Rattle.std.proofs.Common.{rules, arith}
use Rattle.std.proofs.lemmas.Result.{err_from_is_err_and}
use Rattle.decode_slice.proofs.Laws.Whole.{slices}
use Rattle.decode_slice.proofs.Laws.Sorts.{formulas}
use Rattle.decode_slice.proofs.Theorems.{formula_exact}
use Rattle.decode_slice.proofs.read_formula.Goals as goal

pub returns-then-s-gt-BYTES-clause-result_value : goal.returns-then-s-gt-BYTES-clause-result_value
returns-then-s-gt-BYTES-clause-result_value c = search (rules, slices)

pub returns-then-s-gt-BYTES-clause-formula_answer : goal.returns-then-s-gt-BYTES-clause-formula_answer
returns-then-s-gt-BYTES-clause-formula_answer c = formula_exact _ c.type_inv.s _ (search (rules, slices))

pub read_within-requires : goal.read_within-requires
read_within-requires c = (omega arith, formulas, omega arith)

pub returns-in_err-end-clause-result_value : goal.returns-in_err-end-clause-result_value
returns-in_err-end-clause-result_value c =
    let p = err_from_is_err_and c.from_residual.result c.from_residual.ensures.1 in
    rw (p.1, p.2) (search (rules, slices, c.in_err-end.was))

pub returns-in_err-end-clause-formula_answer : goal.returns-in_err-end-clause-formula_answer
returns-in_err-end-clause-formula_answer c =
    let p = err_from_is_err_and c.from_residual.result c.from_residual.ensures.1 in
    formula_exact _ c.type_inv.s _ (rw (p.1, p.2) (search (rules, slices, c.in_err-end.was)))

pub returns-clause-result_value : goal.returns-clause-result_value
returns-clause-result_value c = search (rules, slices, c.in_ok-end.was)

pub returns-clause-formula_answer : goal.returns-clause-formula_answer
returns-clause-formula_answer c = formula_exact _ c.type_inv.s _ (search (rules, slices, c.in_ok-end.was))
