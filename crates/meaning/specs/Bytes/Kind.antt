-- The kinds of terms, processes and formulas ("Bytes").
use Rattle.std.specs.Prelude.{List, [], ◌∷◌}
use Rattle.meaning.specs.Messages.Term.{Side, fst, snd, enc, dec, Binary, pair, cipher, mac}

-- The kinds of each sort, and a list of them in the order of their numbers.
pub data TermKind : Type 0 where
  name variable : TermKind
  proj : Side → TermKind
  binary : Binary → TermKind

abbrev pub term_kinds : List TermKind
term_kinds =
    TermKind.name ∷ TermKind.variable ∷ TermKind.binary pair ∷ TermKind.proj fst ∷ TermKind.proj snd
    ∷ TermKind.binary (cipher enc) ∷ TermKind.binary (cipher dec) ∷ TermKind.binary mac ∷ []

pub data ProcessKind : Type 0 where
  nil new output input if let_in par repl : ProcessKind

abbrev pub process_kinds : List ProcessKind
process_kinds =
    ProcessKind.nil ∷ ProcessKind.new ∷ ProcessKind.output ∷ ProcessKind.input ∷ ProcessKind.if ∷ ProcessKind.let_in
    ∷ ProcessKind.par ∷ ProcessKind.repl ∷ []

pub data FormulaKind : Type 0 where
  equal not and output input silent : FormulaKind

abbrev pub formula_kinds : List FormulaKind
formula_kinds =
    FormulaKind.equal ∷ FormulaKind.not ∷ FormulaKind.and ∷ FormulaKind.output ∷ FormulaKind.input ∷ FormulaKind.silent ∷ []
