-- A number with a limit ("Turned back for the input", 2 to 6).
use Rattle.std.specs.Prelude.{ℕ, List, ltb}
use Rattle.meaning.specs.Bytes.Number.{Read, and_then, provided, number}
use Rattle.decode_number.specs.declared.answer.Refusal.{Refusal}
use Rattle.decode_number.specs.Answer.{refusal_number}

-- A number that is refused for this reason unless it is below the limit.
unfoldable pub number_below : (limit : ℕ) → Refusal → List ℕ → (at : ℕ) → Read ℕ
number_below limit why s at = and_then (number s at) (λ n end. provided (ltb n limit) (refusal_number why) at n end)
