-- The next step of a label, element by element ("Steps").
use Rattle.std.specs.Prelude.{◌≡◌, Option, List, ℕ, ◌-◌, ◌≤◌, length}
use Rattle.meaning.specs.Messages.Term.{Message}
use Rattle.meaning.specs.Steps.State.{State}
use Rattle.state_record.specs.Record.{Placed}
use Rattle.state_record.specs.declared.state.State as code
use Rattle.step_transition.specs.Moves.{Move, silent_moves}
use Rattle.state_layout.specs.Loaded.{IsRunOf}
use Rattle.step_transition.specs.WithinLimits.{WithinLimits}
use Rattle.step_transition.specs.Threads.{Threads}
use Rattle.step_transition.specs.CopyMoves.{Roomy}
use Rattle.step_label.specs.declared.step.Step as step
use Rattle.step_label.specs.declared.step.Label.TheVariants.{Silent}
use Rattle.step_transition.specs.Behind.{moves_of, Searching}
use Rattle.step_between.specs.Buffered.{Answered, Resuming}

-- The answer is the first of the moves behind a step, with what it sends and on what at the fronts of two slices; or none.
pub record Nexts (s channel : List ℕ) (st : code.State) (from : step.Step) (m out held message : List ℕ) (r : Option step.Step)
    (on said : List ℕ) : Type 0 where
  pub exact : (S : State) (x : Message) (h : WithinLimits s out st S) → IsRunOf channel x → Searching s st m out message → 510 ≤ length held
      → {others : List Move} → Resuming from.label st.start (moves_of from.label x S.next h.at.placed) held message from others
      → Answered st.start on said r others

-- The position of a mark.
unfoldable pub place_of : ℕ → ℕ
place_of mark = mark - 1

-- The answer is the first of the silent moves behind a step: of two threads; or in copies, from the first on; or whichever.
pub record NextFrom (Here : step.Step → Type 0) (s : List ℕ) (st : code.State) (from : step.Step) (m out channel message : List ℕ)
    (r : Option step.Step) (on said : List ℕ) : Type 0 where
  pub exact : (ps : List Placed) {others : List Move} → Here from → Threads s out st.start st.names ps st.end
      → Roomy s out m message st.names st.end → 510 ≤ length channel
      → Resuming Silent st.start (silent_moves st.names ps) channel message from others → Answered st.start on said r others

abbrev pub NextBetween : (s : List ℕ) → code.State → step.Step → (m out channel message : List ℕ) → Option step.Step → (on said : List ℕ)
    → Type 0
NextBetween s st from m out channel message r on said = NextFrom (λ v. v.arity ≡ 0) s st from m out channel message r on said

abbrev pub NextJoint : (s : List ℕ) → code.State → step.Step → (m out channel message : List ℕ) → Option step.Step → (on said : List ℕ)
    → Type 0
NextJoint s st from m out channel message r on said = NextFrom (λ v. v.arity ≡ 0 → ⊥) s st from m out channel message r on said

abbrev pub NextSilent : (s : List ℕ) → code.State → step.Step → (m out channel message : List ℕ) → Option step.Step → (on said : List ℕ)
    → Type 0
NextSilent s st from m out channel message r on said = NextFrom (λ v. Unit {0}) s st from m out channel message r on said
