-- `gubzsenil::gubzsenil_verdict` meets its contract, by what was read. The slices of the code hold bytes.
use Rattle.std.proofs.Common.{rules}
use Rattle.gubzsenil.proofs.Laws.Verdict.{Slices, slices_of, first_short, second_short, formula_short, work_long, lent_long, shorts, verdicts}
use Rattle.gubzsenil.proofs.gubzsenil_verdict.Goals as goal

pub slice_bounds-judge-end : goal.slice_bounds-judge-end
slice_bounds-judge-end c =
    let held : Slices c.args.first.now c.args.second.now c.args.formula.now =
    slices_of _ _ _ c.type_inv.first c.type_inv.second c.type_inv.formula in
    search (rules, shorts, held)

pub judge-requires-clause-first_len_bound : goal.judge-requires-clause-first_len_bound
judge-requires-clause-first_len_bound c =
    let held : Slices c.args.first.now c.args.second.now c.args.formula.now =
    slices_of _ _ _ c.type_inv.first c.type_inv.second c.type_inv.formula in (
      first_short _ _ _ _ held _ c.read.ensures c.in-Ok.is,
      second_short _ _ _ _ held _ c.read.ensures c.in-Ok.is,
      lent_long 65536 _ (work_long _ _ _ _ held _ c.read.ensures c.in-Ok.is),
    )

pub judge-requires-clause-formula_len_bound : goal.judge-requires-clause-formula_len_bound
judge-requires-clause-formula_len_bound c =
    let held : Slices c.args.first.now c.args.second.now c.args.formula.now =
    slices_of _ _ _ c.type_inv.first c.type_inv.second c.type_inv.formula in
    formula_short _ _ _ _ held _ c.read.ensures c.in-Ok.is

pub returns-in-Ok : goal.returns-in-Ok
returns-in-Ok c =
    let held : Slices c.args.first.now c.args.second.now c.args.formula.now =
    slices_of _ _ _ c.type_inv.first c.type_inv.second c.type_inv.formula in
    search (rules, verdicts, held)

pub returns-in-Err : goal.returns-in-Err
returns-in-Err c =
    let held : Slices c.args.first.now c.args.second.now c.args.formula.now =
    slices_of _ _ _ c.type_inv.first c.type_inv.second c.type_inv.formula in
    search (rules, verdicts, held)
