-- The silent steps of the threads of a state in their copies, and what is left of them from a step on ("Steps").
use Rattle.std.specs.Prelude.{true, false, ℕ, ◌+◌, ◌≤◌, eqb, length}
use mathlib.Core.List.{List, [], ◌∷◌, ◌++◌, flat_map}
use Rattle.step_located.specs.Sought.{Opened}
use Rattle.step_transition.specs.Focus.{Focus, focuses_from, copies_of}
use Rattle.step_transition.specs.Moves.{Move}
use Rattle.step_transition.specs.CopyOffers.{pairs_from, senders, moved}
use Rattle.index_process.specs.Index.{ShortModel}

-- Those of a repl thread: within one copy, then of two.
unfoldable pub group_moves : Focus → Opened → List Move
group_moves p w = moved p 1 w (pairs_from 1 w 0 (senders w 0)) ++ moved p 2 w (pairs_from 2 w 0 (senders w 0))

-- Those of threads, copies being opened at k.
unfoldable pub copy_moves : (k : ℕ) → List Focus → List Move
copy_moves k ps = flat_map (λ p. flat_map (group_moves p) (copies_of p.thread k)) ps

-- The threads behind one.
abbrev pub later_focuses : Focus → List Focus
later_focuses p = focuses_from (p.before ++ (p.thread ∷ [])) p.behind

-- What is left: senders from x on, the first with its takers from y on, in one copy or two of the repl thread w; then the two copies of w,
-- then the repl threads after it, then the threads behind.
unfoldable pub copy_moves_from : (k : ℕ) → Focus → (arity : ℕ) → Opened → List Opened → (x y : ℕ) → List Move
copy_moves_from k p arity w post x y =
    moved p arity w (pairs_from arity w y (senders w x))
    ++ (elim (eqb arity 1) [ true ↦ moved p 2 w (pairs_from 2 w 0 (senders w 0)) | false ↦ [] ])
    ++ flat_map (group_moves p) post ++ copy_moves k (later_focuses p)

-- Room for traversals of the threads of a state that write from the position to on.
pub record Roomy (s out m message : List ℕ) (k to : ℕ) : Type 0 where
  pub short : ShortModel s
  pub wide : 10750 ≤ length m
  pub room : to + 3964 ≤ length out
  pub few : k ≤ 128
  pub long : 510 ≤ length message
