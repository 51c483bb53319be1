-- The paths to processes and formulas: what each is for the parts of a node of the kind k.
use Rattle.std.specs.Prelude.{ℕ, ◌+◌, ◌-◌}
use Rattle.decode_layout.specs.Layout.{binds, step, layout_of, process_layouts, formula_layouts}
use Rattle.decode_slice.specs.declared.process.Path.{Path as ProcessPath}
use Rattle.decode_slice.specs.declared.formula.Path.{Path as FormulaPath}

abbrev pub process_below : ProcessPath → (k : ℕ) → ProcessPath
process_below p k = record { scope = p.scope + binds (layout_of process_layouts k); left = p.left - 1 }

abbrev pub formula_below : FormulaPath → (k : ℕ) → FormulaPath
formula_below p k =
    record {
      scope = p.scope + binds (layout_of formula_layouts k);
      left = p.left - 1;
      steps = p.steps - step (layout_of formula_layouts k);
    }
