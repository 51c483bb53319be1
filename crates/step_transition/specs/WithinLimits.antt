-- A state in the work bytes that is over no limit: the start state, and every state that a step leads to ("Steps"; "Judging and its
-- count").
use Rattle.std.specs.Prelude.{◌≡◌, false, List, ℕ, ◌≤◌, length}
use Rattle.meaning.specs.Messages.Term.{Message, nodes}
use Rattle.meaning.specs.Bytes.Process.{Process}
use Rattle.meaning.specs.Places.{Every}
use Rattle.meaning.specs.Steps.State.{State, start}
use Rattle.meaning.specs.Steps.Invariant.{Stored, BoundStored}
use Rattle.meaning.specs.Judging.Visits.{start_arrival}
use Rattle.state_layout.specs.Layout.{StateAt, over_arrival}
use Rattle.state_record.specs.declared.state.State as code
use Rattle.step_transition.specs.Outcome.{outcome, arrival_of}
use Rattle.state_layout.specs.Loaded.{BoundSmall}
use Rattle.step_transition.specs.Threads.{Judged}
use Rattle.step_transition.specs.Limits.{EveryMove}

pub record WithinLimits (s out : List ℕ) (st : code.State) (S : State) : Type 0 where
  pub at : StateAt s out st S
  pub judged : Every (Judged S.next) at.placed
  pub stored : BoundStored S.next S.aliases
  pub small : BoundSmall S.aliases
  pub few : length S.threads ≤ 32
  pub light : st.nodes ≤ 1024
  pub made : S.next ≤ 128

-- The start state.
abbrev pub StartWithinLimits : Type 0
StartWithinLimits =
    (s out : List ℕ) (P : Process) (st : code.State) → over_arrival (start_arrival P) ≡ false → StateAt s out st (start P)
    → WithinLimits s out st (start P)

-- Whatever a step leads to, wherever it is written; x is the message of an input.
abbrev pub StepWithinLimits : Type 0
StepWithinLimits =
    (s out : List ℕ) (st : code.State) (S : State) (x : Message) (h : WithinLimits s out st S) → Stored S.next x → nodes x ≤ 255
    → EveryMove (λ v. let T = arrival_of S (outcome h.at.placed S.next x v) in
    over_arrival T ≡ false → (after : List ℕ) (st' : code.State) → StateAt s after st' T.state → WithinLimits s after st' T.state)
    S.next h.at.placed
