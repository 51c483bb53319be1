-- What an answer on a whole slice has to be, by the rules and not by a reader ("Turned back for the input").
use Rattle.std.specs.Prelude.{◌≡◌, ◌↔◌, List, ℕ, length}
use Rattle.meaning.specs.Bytes.WellFormed.{IsModel, IsFormula}
use Rattle.meaning.specs.Bytes.Refusal.{Refusal as RefusedBy, process, formula}
use Rattle.decode_number.specs.declared.answer.Refusal.{Refusal}
use Rattle.decode_number.specs.Answer as answers
use Rattle.decode_number.specs.Answer.{Answer, refusal_number}

-- It is an end exactly when the slice is the encoding of something well-formed, and then it is the slice's end. It is a refusal
-- exactly when the rules refuse the slice for that reason at that place.
pub record Exact {A : Type 0} (s : List ℕ) (Is : A → Type 0) (Refuses : (number place : ℕ) → Type 0) (a : Answer) : Type 0 where
  pub ends : (end : ℕ) → (a ≡ answers.ends end) ↔ ((end ≡ length s) × ((x : A) × Is x))
  pub refuses : (why : Refusal) (place : ℕ) → (a ≡ answers.refuses why place) ↔ Refuses (refusal_number why) place

abbrev pub ModelAnswer : List ℕ → Answer → Type 0
ModelAnswer s = Exact s (IsModel s) (RefusedBy s (process 64 0))

abbrev pub FormulaAnswer : List ℕ → Answer → Type 0
FormulaAnswer s = Exact s (IsFormula s) (RefusedBy s (formula 48 16 0))
