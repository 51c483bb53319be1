-- What the answers of the readers say, in document 01's numbers ("Turned back for the input").
use Rattle.std.specs.Prelude.{ℕ, List, length, Result, Ok, Err}
use Rattle.meaning.specs.Bytes.Number.{Read, found, refused}
use Rattle.decode_number.specs.declared.answer.Refusal.{Refusal}
use Rattle.decode_number.specs.declared.answer.Refusal.TheVariants.{TooLong, Truncated, Malformed, UnknownKind}
use Rattle.decode_number.specs.declared.answer.Refusal.TheVariants.{NameRange, OutOfScope, TooDeep, Trailing}
use Rattle.decode_number.specs.declared.answer.Refused.{Refused}
use Rattle.decode_number.specs.declared.number.Decoding.{Decoding}
use Rattle.decode_number.specs.declared.number.Fault as faults
use Rattle.decode_number.specs.declared.number.Fault.{Fault}

-- The number of each refusal.
abbrev pub refusal_number : Refusal → ℕ
refusal_number TooLong = 1
refusal_number Truncated = 2
refusal_number Malformed = 3
refusal_number UnknownKind = 4
refusal_number NameRange = 5
refusal_number OutOfScope = 6
refusal_number TooDeep = 7
refusal_number Trailing = 8

-- Where something ends, or how it is refused: an answer that tells nothing of the tree.
abbrev pub Extent : Type 0
Extent = Read (Unit {0})

-- What a reader answers on a term, a process, a formula or a whole slice: where it ends; or why it is refused, and where.
abbrev pub Answer : Type 0
Answer = Result ℕ Refused

abbrev pub ends : (end : ℕ) → Answer
ends end = Ok end

abbrev pub refuses : Refusal → (place : ℕ) → Answer
refuses why place = Err (record { why = why; place = place })

abbrev pub answer : Answer → Extent
answer (Ok end) = found tt end
answer (Err r) = refused (refusal_number r.why) r.place

-- What a reader's answer says of the end.
unfoldable pub extent : {A : Type 0} → Read A → Extent
extent (found a end) = found tt end
extent (refused number place) = refused number place

-- The answer on a number at the position at of s.
abbrev pub Numeral : Type 0
Numeral = Result Decoding Fault

abbrev pub numeral : (s : List ℕ) (at : ℕ) → Numeral → Read ℕ
numeral s at (Ok n) = found n.value n.end
numeral s at (Err faults.TheVariants.Truncated) = refused 2 (length s)
numeral s at (Err faults.TheVariants.Malformed) = refused 3 at

-- The answer on a number with a limit.
abbrev pub Bounded : Type 0
Bounded = Result Decoding Refused

abbrev pub bounded : Bounded → Read ℕ
bounded (Ok n) = found n.value n.end
bounded (Err r) = refused (refusal_number r.why) r.place
