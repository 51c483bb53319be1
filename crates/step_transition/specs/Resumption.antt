-- Silent steps in copies: which of the definitions they are, and what is left of them after a step ("Steps"). The proofs are in
-- proofs/Laws/CopyMoves.antt, CopyMovesResumed.antt and CopyMovesSilent.antt, under the same names in snake case.
use Rattle.std.specs.Prelude.{◌≡◌, ℕ, ◌+◌, ◌≤◌}
use mathlib.Core.List.{List, ◌∷◌, ◌++◌, map, flat_map}
use Rattle.state_record.specs.Record.{Placed}
use Rattle.step_located.specs.CopyStep.{CopyStep}
use Rattle.step_located.specs.Sought.{Opened}
use Rattle.step_transition.specs.Focus.{Focus, focuses, copies_of, copy_steps_of}
use Rattle.step_transition.specs.Moves.{Move, inside, meetings, silent_moves}
use Rattle.step_transition.specs.Step.{arity_of}
use Rattle.step_transition.specs.CopyMoves.{copy_moves, copy_moves_from}

-- They are the steps of single threads, in the same order.
abbrev pub CopyMovesAll : Type 0
CopyMovesAll = (k : ℕ) (qs : List Focus) → copy_moves k qs ≡ flat_map (λ p. map (inside p) (copy_steps_of p.thread k)) qs

-- The step j of the thread p of ps is one of a repl thread w of it, and what comes after it is what is left from its sender and from behind
-- its taker on.
pub record Resumed (k : ℕ) (ps : List Placed) (after : List Move) (p : Focus) (j : CopyStep) : Type 0 where
  pub pre : List Opened
  pub w : Opened
  pub post : List Opened
  pub listed : copies_of p.thread k ≡ pre ++ (w ∷ post)
  pub parts : ps ≡ p.before ++ (p.thread ∷ p.behind)
  pub meant : w.place ≡ j.place
  pub arity_low : 1 ≤ arity_of j
  pub arity_high : arity_of j ≤ 2
  pub left : copy_moves_from k p (arity_of j) w post j.pair.sender.place (j.pair.taker.place + 1) ≡ after

abbrev pub CopyMovesResumed : Type 0
CopyMovesResumed =
    (k : ℕ) (ps : List Placed) (before after : List Move) (p : Focus) (j : CopyStep) → copy_moves k (focuses ps) ≡ before ++ (inside p j ∷ after)
    → Resumed k ps after p j

-- So for all silent steps of a state: after a step of one thread come the rest of these, and then those of two threads.
abbrev pub SilentMovesResumed : Type 0
SilentMovesResumed =
    (k : ℕ) (ps : List Placed) (before after : List Move) (p : Focus) (j : CopyStep) → silent_moves k ps ≡ before ++ (inside p j ∷ after)
    → (rest : List Move) × Resumed k ps rest p j × (after ≡ rest ++ flat_map (meetings k (focuses ps)) (focuses ps))
