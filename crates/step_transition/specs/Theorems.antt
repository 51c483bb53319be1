-- The theorems on the moves of a list of threads ("Steps"; "Judging and its count"): they are the steps of the definitions, one by one and
-- in the same order. Their proofs are in proofs/Laws/Moves.antt and MovesSilent.antt, under the same names in snake case.
use Rattle.std.specs.Prelude.{◌≡◌, true, false, List, map}
use Rattle.meaning.specs.Messages.Term.{Recipe, Message}
use Rattle.meaning.specs.Bytes.Formula.{Label}
use Rattle.meaning.specs.Steps.State.{worked, State}
use Rattle.meaning.specs.Judging.Visits.{arrivals}
use Rattle.state_record.specs.Record.{Placed}
use Rattle.state_head.specs.Settled.{threads_of}
use Rattle.step_transition.specs.Moves.{labelled_moves, silent_moves}
use Rattle.step_transition.specs.Outcome.{outcome, arrival_of}

-- Outputs on the channel of a recipe. The message x is that of an input; no output asks for it.
abbrev pub OutputsMoved : Type 0
OutputsMoved =
    (ps : List Placed) (S : State) (R : Recipe) (x : Message) → threads_of ps ≡ S.threads → arrivals S (Label.output R)
    ≡ map (λ v. arrival_of S (outcome ps S.next x v)) (labelled_moves true (worked S.aliases R) S.next ps)

-- Inputs, of the message of another recipe.
abbrev pub InputsMoved : Type 0
InputsMoved =
    (ps : List Placed) (S : State) (R N : Recipe) → threads_of ps ≡ S.threads → arrivals S (Label.input R N)
    ≡ map (λ v. arrival_of S (outcome ps S.next (worked S.aliases N) v)) (labelled_moves false (worked S.aliases R) S.next ps)

-- Silent steps. These do not ask for x either.
abbrev pub SilentsMoved : Type 0
SilentsMoved =
    (ps : List Placed) (S : State) (x : Message) → threads_of ps ≡ S.threads → arrivals S Label.silent
    ≡ map (λ v. arrival_of S (outcome ps S.next x v)) (silent_moves S.next ps)
