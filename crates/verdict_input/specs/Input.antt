-- Whether the input is turned back, and with which numbers ("Turned back for the input").
use Rattle.std.specs.Prelude.{◌≡◌, true, false, Result, Ok, Err, ℕ, ◌≤◌, ltb}
use Rattle.std.proofs.Math.Option.{Option, none, some}
use Rattle.meaning.specs.Bytes.Number.{Read, found, refused}
use Rattle.meaning.specs.Verdict as verdicts
use Rattle.meaning.specs.Verdict.{Answer as Numbers, work_bytes}
use Rattle.decode_number.specs.declared.answer.Refusal.{Refusal}
use Rattle.decode_number.specs.Answer.{Answer, refuses}
use Rattle.verdict_input.specs.declared.answer.Answer.{Answer as Code}
use Rattle.verdict_input.specs.Answer.{numbers, turned_back}

-- What the code answers: nothing turns the input back, or the answer on the first thing that does.
abbrev pub Input : Type 0
Input = Result (Unit {0}) Code

abbrev pub refusal : Input → Option Numbers
refusal (Ok u) = none
refusal (Err a) = some (numbers a)

-- What becomes of an input by the verdict.
unfoldable pub refusal_of : verdicts.Input → Option Numbers
refusal_of (verdicts.good P Q F) = none
refusal_of (verdicts.bad result slice place) = some (turned_back result slice place)

-- The work buffer is too short.
unfoldable pub buffer_refusal : (work : ℕ) → Option Numbers
buffer_refusal work = elim (ltb work work_bytes) [ true ↦ some (turned_back 9 0 0) | false ↦ none ]

-- A slice, by what is read of it.
unfoldable pub slice_refusal : {A : Type 0} → (slice : ℕ) → Read A → Option Numbers
slice_refusal slice (found a end) = none
slice_refusal slice (refused number place) = some (turned_back number slice place)

-- If an answer is a refusal, its place is at most 4,096.
pub record Placed (a : Answer) : Type 0 where
  pub below : (why : Refusal) (place : ℕ) → a ≡ refuses why place → place ≤ 4096
