-- The kinds of terms, processes and formulas by document 01's numbers ("Bytes"), and which of them a number is: the kind that has it, or
-- none ("Turned back for the input", 4).
use Rattle.std.specs.Prelude.{◌≡◌, ◌≤◌, ℕ, Result, MatchResult}
use Rattle.decode_layout.specs.declared.unknown_kind.UnknownKind.{UnknownKind}
use Rattle.decode_layout.specs.declared.term_kind.TermKind.{TermKind}
use Rattle.decode_layout.specs.declared.term_kind.TermKind.TheVariants as terms
use Rattle.decode_layout.specs.declared.process_kind.ProcessKind.{ProcessKind}
use Rattle.decode_layout.specs.declared.process_kind.ProcessKind.TheVariants as processes
use Rattle.decode_layout.specs.declared.formula_kind.FormulaKind.{FormulaKind}
use Rattle.decode_layout.specs.declared.formula_kind.FormulaKind.TheVariants as formulas

abbrev pub term_number : TermKind → ℕ
term_number terms.Name = 0
term_number terms.Variable = 1
term_number terms.Pair = 2
term_number terms.Fst = 3
term_number terms.Snd = 4
term_number terms.Enc = 5
term_number terms.Dec = 6
term_number terms.Mac = 7

abbrev pub IsTerm : ℕ → Result TermKind UnknownKind → Type 0
IsTerm number r = MatchResult r (λ kind. term_number kind ≡ number) (λ e. (e.0 ≡ number) × (8 ≤ number))

abbrev pub process_number : ProcessKind → ℕ
process_number processes.Nil = 0
process_number processes.New = 1
process_number processes.Output = 2
process_number processes.Input = 3
process_number processes.If = 4
process_number processes.Let = 5
process_number processes.Par = 6
process_number processes.Repl = 7

abbrev pub IsProcess : ℕ → Result ProcessKind UnknownKind → Type 0
IsProcess number r = MatchResult r (λ kind. process_number kind ≡ number) (λ e. (e.0 ≡ number) × (8 ≤ number))

abbrev pub formula_number : FormulaKind → ℕ
formula_number formulas.Equal = 0
formula_number formulas.Not = 1
formula_number formulas.And = 2
formula_number formulas.Output = 3
formula_number formulas.Input = 4
formula_number formulas.Silent = 5

abbrev pub IsFormula : ℕ → Result FormulaKind UnknownKind → Type 0
IsFormula number r = MatchResult r (λ kind. formula_number kind ≡ number) (λ e. (e.0 ≡ number) × (6 ≤ number))
