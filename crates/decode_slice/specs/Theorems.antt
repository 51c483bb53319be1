-- The theorems on the answers of the readers ("Turned back for the input"). Their proofs are in proofs/Theorems.antt, under the
-- same names in snake case.
use Rattle.std.specs.Prelude.{◌≡◌, List, ℕ}
use Rattle.meaning.specs.Bytes.WellFormed.{Bytes}
use Rattle.meaning.specs.Bytes.Reading.{read_model, read_formula}
use Rattle.decode_number.specs.Answer.{Answer, answer, extent}
use Rattle.decode_slice.specs.Exact.{ModelAnswer, FormulaAnswer}

-- An answer that says of a slice what the reader of `meaning` says is the one that the rules ask for.
abbrev pub ModelsExact : Type 0
ModelsExact = (s : List ℕ) → Bytes s → (a : Answer) → answer a ≡ extent (read_model s) → ModelAnswer s a

abbrev pub FormulasExact : Type 0
FormulasExact = (s : List ℕ) → Bytes s → (a : Answer) → answer a ≡ extent (read_formula s) → FormulaAnswer s a
