-- The steps of a state by the threads that act, in the order of the definitions ("Steps").
use Rattle.std.specs.Prelude.{Bool, false, not, ℕ, eqb, length}
use mathlib.Core.List.{List, ◌++◌, map, flat_map}
use Rattle.meaning.specs.Messages.Term.{Message}
use Rattle.state_record.specs.Record.{Placed}
use Rattle.state_task.specs.declared.task.Quest.{Quest}
use Rattle.step_located.specs.Located.{LocatedOffer}
use Rattle.step_located.specs.CopyStep.{Pair, matching, CopyStep}
use Rattle.step_located.specs.Sought.{wanted}
use Rattle.step_transition.specs.Focus.{Focus, focuses, offers_of, copy_steps_of, filter}

-- An output or an input of a thread; a silent step of one thread, in its copies; a silent step of two threads.
pub data Move : Type 0 where
  alone : Focus → LocatedOffer → Move
  inside : Focus → CopyStep → Move
  between : (sender taker : Focus) → Pair → Move

-- Outputs, or inputs, on the channel of a label.
abbrev pub labelled : Bool → Quest
labelled output = record { output = output; any = false; from = 0; excluded = 0 }

unfoldable pub offered : Bool → Message → (k : ℕ) → Focus → List Move
offered output x k p = map (alone p) (filter (wanted (labelled output) x) (offers_of p.thread k))

unfoldable pub labelled_moves : Bool → Message → (k : ℕ) → List Placed → List Move
labelled_moves output x k ps = flat_map (offered output x k) (focuses ps)

-- The other threads.
unfoldable pub others : Focus → List Focus → List Focus
others p qs = filter (λ q. not (eqb (length q.before) (length p.before))) qs

-- The takers of what a thread sends, and all that two threads can do, the sender's thread first, then its offers.
unfoldable pub takers : Focus → LocatedOffer → List Focus → List Move
takers p a qs = flat_map (λ q. map (between p q) (flat_map (matching a) (offers_of q.thread a.next))) qs

unfoldable pub meetings : (k : ℕ) → List Focus → Focus → List Move
meetings k qs p = flat_map (λ a. takers p a (others p qs)) (offers_of p.thread k)

unfoldable pub silent_moves : (k : ℕ) → List Placed → List Move
silent_moves k ps =
    flat_map (λ p. map (inside p) (copy_steps_of p.thread k)) (focuses ps) ++ flat_map (meetings k (focuses ps)) (focuses ps)
