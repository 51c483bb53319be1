-- Well-formed models and formulas, apart from any reader ("Turned back for the input", last paragraph): some tree
-- with nothing out of scope and nothing too deep is written as this slice, which has at most 4,096 bytes.
use Rattle.std.specs.Prelude.{◌≡◌, List, [], ◌∷◌, ℕ, ◌≤◌, ◌<◌, length}
use Rattle.meaning.specs.Bytes.Process.{Process}
use Rattle.meaning.specs.Bytes.Formula.{Formula}
use Rattle.meaning.specs.Bytes.Encoding.{encode_process, encode_formula}
use Rattle.meaning.specs.Bytes.Scope.{ProcessScoped, FormulaScoped}
use Rattle.meaning.specs.Bytes.Nesting.{process_terms, formula_terms, process_depth, variables, formula_depth, step_depth}

-- A slice holds bytes.
abbrev pub Bytes : List ℕ → Type 0
Bytes [] = Unit {0}
Bytes (b ∷ s) = (b < 256) × Bytes s

pub record IsModel (s : List ℕ) (P : Process) : Type 0 where
  pub encoded : encode_process P ≡ s
  pub short : length s ≤ 4096
  pub scoped : ProcessScoped 0 P
  pub terms : process_terms P ≤ 8
  pub nodes : process_depth P ≤ 64
  pub bound : variables P ≤ 12

pub record IsFormula (s : List ℕ) (F : Formula) : Type 0 where
  pub encoded : encode_formula F ≡ s
  pub short : length s ≤ 4096
  pub scoped : FormulaScoped 0 F
  pub terms : formula_terms F ≤ 8
  pub nodes : formula_depth F ≤ 48
  pub steps : step_depth F ≤ 16
