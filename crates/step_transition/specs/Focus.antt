-- The threads of a state one by one, each with those before it and those behind it ("Steps").
use Rattle.std.specs.Prelude.{Bool, true, false, List, [], ◌∷◌, ◌++◌, ℕ, ◌+◌, length}
use Rattle.state_record.specs.Record.{Placed, process_of, bound_of, encode_records}
use Rattle.step_located.specs.Located.{LocatedOffer, located_offers}
use Rattle.step_located.specs.CopyStep.{CopyStep, copy_steps}
use Rattle.step_located.specs.Sought.{Opened, copies}

pub record Focus : Type 0 where
  pub before : List Placed
  pub thread : Placed
  pub behind : List Placed

-- The threads ts, with ls before them.
unfoldable pub focuses_from : (ls ts : List Placed) → List Focus
focuses_from ls [] = []
focuses_from ls (t ∷ ts) = record { before = ls; thread = t; behind = ts } ∷ focuses_from (ls ++ (t ∷ [])) ts

abbrev pub focuses : List Placed → List Focus
focuses ts = focuses_from [] ts

-- Where the record of a thread stands, the first one standing at a position.
abbrev pub record_at : ℕ → Focus → ℕ
record_at start p = start + length (encode_records p.before)

-- What a thread of a state offers, its copies being opened at k; its repl threads; and its own silent steps.
abbrev pub offers_of : Placed → ℕ → List LocatedOffer
offers_of t k = located_offers (process_of t.thread) t.place (bound_of t.thread) 0 k

abbrev pub copies_of : Placed → ℕ → List Opened
copies_of t k = copies (process_of t.thread) t.place (bound_of t.thread) 0 k

abbrev pub copy_steps_of : Placed → ℕ → List CopyStep
copy_steps_of t k = copy_steps (process_of t.thread) t.place (bound_of t.thread) 0 k

-- Those elements of a list that pass a test.
unfoldable pub filter : {A : Type 0} → (A → Bool) → List A → List A
filter test [] = []
filter test (x ∷ xs) = elim (test x) [ true ↦ x ∷ filter test xs | false ↦ filter test xs ]
