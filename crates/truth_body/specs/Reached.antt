-- A state that judging has come to, and room for what follows it ("Judging and its count").
use Rattle.std.specs.Prelude.{◌≡◌, true, false, List, ℕ, ◌+◌, ◌*◌, ◌≤◌, length, Option, Some, None}
use Rattle.meaning.specs.Judging.Visits.{Arrival}
use Rattle.buffer.specs.Buffer.{Within}
use Rattle.state_record.specs.declared.state.State as code
use Rattle.state_layout.specs.Layout.{over_arrival}
use Rattle.step_transition.specs.WithinLimits.{WithinLimits}
use Rattle.index_process.specs.Index.{ShortModel}

-- What a visit to a state asks for: the state ends where others may still follow it.
abbrev pub VisitRoom : (s out : List ℕ) → code.State → Type 0
VisitRoom s out st = ShortModel s × (65536 ≤ length out) × (st.end ≤ 50592) × (st.aliases ≤ st.end)

-- The model is short, and there is room for bound messages and for states.
pub record JudgingRoom (s m out : List ℕ) : Type 0 where
  pub short : ShortModel s
  pub wide : 10750 ≤ length m
  pub long : 65536 ≤ length out

-- A state within its limits, as it was reached, with so many step formulas still to come. It stands where at most 2,976 bytes were taken by
-- each state on the way, and has at most one alias for each step.
pub record Here (s out : List ℕ) (st : code.State) (A : Arrival) (steps : ℕ) : Type 0 where
  pub free : over_arrival A ≡ false
  pub within : WithinLimits s out st A.state
  pub early : st.end + 2976 * steps ≤ 50592
  pub few : length A.state.aliases + steps ≤ 16

-- The same of what was formed: it may be over a limit.
abbrev pub Reached : (s out : List ℕ) → Option code.State → Arrival → (steps : ℕ) → Type 0
Reached s out (Some st) A steps = Here s out st A steps
Reached s out None A steps = over_arrival A ≡ true

-- No byte of the state or before it is changed, and none at all where there is no state.
abbrev pub Unchanged : Option code.State → (out after : List ℕ) → Type 0
Unchanged (Some st) out after = Within st.end (length out) out after
Unchanged None out after = Within (length out) (length out) out after
