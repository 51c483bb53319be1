-- The theorems on numbers ("Bytes", first paragraph) and answers ("Turned back for the input"). Their proofs are in
-- proofs/Theorems.antt, under the same names in snake case.
use Rattle.std.specs.Prelude.{◌≡◌, List, ℕ}
use Rattle.meaning.specs.Bytes.WellFormed.{Bytes}
use Rattle.meaning.specs.Bytes.Number.{number}
use Rattle.decode_number.specs.Decoding.{decoded_value, decoded_end, canonical}
use Rattle.decode_number.specs.Answer.{Answer, answer, Numeral, numeral}

-- In every slice of bytes the number at a position is the one that arithmetic gives, if that is in the one form.
abbrev pub NumbersDecoded : Type 0
NumbersDecoded = (s : List ℕ) → Bytes s → (at : ℕ) → number s at ≡ canonical s at (decoded_value s at) (decoded_end s at)

-- A promise leaves one answer only.
abbrev pub AnswersFixed : Type 0
AnswersFixed = (a b : Answer) → answer a ≡ answer b → a ≡ b

abbrev pub NumeralsFixed : Type 0
NumeralsFixed = (s : List ℕ) (at : ℕ) (a b : Numeral) → numeral s at a ≡ numeral s at b → a ≡ b
