-- The theorem on ends ("Turned back for the input"). Its proof is in proofs/Theorems.antt, under the same name with a small first
-- letter.
use Rattle.std.specs.Prelude.{◌≡◌, List, ℕ}
use Rattle.meaning.specs.Bytes.Number.{found}
use Rattle.meaning.specs.Bytes.WellFormed.{Bytes}
use Rattle.meaning.specs.Bytes.Reading.{term}
use Rattle.decode_number.specs.Answer.{extent}
use Rattle.decode_layout.specs.Ends.{TermEnd}

-- Where a term is read, its end is the one that the reader found.
abbrev pub EndsAgree : Type 0
EndsAgree =
    (s : List ℕ) → Bytes s → (left scope at end r : ℕ) → extent (term left scope s at) ≡ found tt end → TermEnd s at r → r ≡ end
