-- Formulas and the labels of step formulas that stand at a position ("Bytes", the formula kinds).
use Rattle.std.specs.Prelude.{List, [], ◌++◌, ℕ, ◌≤◌}
use Rattle.meaning.specs.Bytes.Formula.{Label, output, input, silent, Formula}
use Rattle.meaning.specs.Bytes.Encoding.{encode_term, encode_formula}
use Rattle.meaning.specs.Bytes.Nesting.{label_terms, formula_terms, formula_depth, step_depth}
use Rattle.meaning.specs.Bytes.Scope.{LabelScoped, FormulaScoped}
use Rattle.meaning.specs.Bytes.Standing.{Stands}
use Rattle.index_formula.specs.Index.{Indexed}

-- A formula stands in f from at to next, among the bytes of the whole formula, with every alias in scope, at most left nodes and at most
-- steps step formulas on a path, and at most 8 term nodes; and it is in the index.
pub record FormulaAt (f : List ℕ) (at left steps scope : ℕ) (F : Formula) (next : ℕ) : Type 0 where
  pub stands : Stands f at (encode_formula F) next
  pub deep : formula_depth F ≤ left
  pub stepped : step_depth F ≤ steps
  pub terms : formula_terms F ≤ 8
  pub scoped : FormulaScoped scope F
  pub indexed : Indexed f at F
  pub inside : next ≤ 4096

-- A whole formula stands in the slice, with its index.
pub record FormulaIn (f : List ℕ) (F : Formula) : Type 0 where
  pub next : ℕ
  pub at : FormulaAt f 0 48 16 0 F next

-- The numbers that document 01 gives to the step formulas, and the fields before the body.
abbrev pub kind_of : Label → ℕ
kind_of (output C) = 3
kind_of (input C M) = 4
kind_of silent = 5

abbrev pub encode_label : Label → List ℕ
encode_label (output C) = encode_term C
encode_label (input C M) = encode_term C ++ encode_term M
encode_label silent = []

-- The fields of a step formula stand in f from at to body, with every alias in scope and at most 8 term nodes on a path.
pub record LabelAt (f : List ℕ) (at scope : ℕ) (a : Label) (body : ℕ) : Type 0 where
  pub stands : Stands f at (encode_label a) body
  pub terms : label_terms a ≤ 8
  pub scoped : LabelScoped scope a
