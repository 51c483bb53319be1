-- The next silent step of the threads of a state in their copies ("Steps").
use Rattle.std.specs.Prelude.{◌≡◌, Bool, true, false, Option, ℕ, ◌+◌, ◌*◌, ◌≤◌, eqb, length}
use mathlib.Core.List.{List, [], ◌∷◌, ◌++◌, flat_map}
use Rattle.state_record.specs.Record.{Placed, encode_records}
use Rattle.step_located.specs.Sought.{Opened}
use Rattle.step_transition.specs.Focus.{Focus, focuses_from, record_at, copies_of}
use Rattle.step_transition.specs.Threads.{Threads}
use Rattle.step_transition.specs.CopyOffers.{ThreadAt, pairs_from, senders, moved}
use Rattle.step_transition.specs.Step.{Shown}
use Rattle.step_label.specs.declared.step.Step.{Step}
use Rattle.state_layout.specs.Loaded.{RecordAt}
use Rattle.state_progress.specs.declared.progress.Progress.{Progress}
use Rattle.step_transition.specs.CopyMoves.{group_moves, copy_moves, later_focuses, copy_moves_from, Roomy}

-- The answer is the first of what is left: from the first repl thread of the threads ts on, where no repl thread is meant; or from a repl
-- thread of the first of them on.
pub record NextInCopies (s : List ℕ) (at k to : ℕ) (m : List ℕ) (copy arity x y left : ℕ) (out message : List ℕ) (r : Option Step)
    (said : List ℕ) : Type 0 where
  pub first : (start : ℕ) (ls ts : List Placed) → Threads s out at k ts to → Roomy s out m message k to
      → at ≡ start + length (encode_records ls) → copy ≡ 0 → arity ≡ 2
      → 8193 ≤ left → Shown start said r (copy_moves k (focuses_from ls ts))
  pub later : (start : ℕ) (p : Focus) (pre post : List Opened) (w : Opened) → Threads s out at k (p.thread ∷ p.behind) to
      → Roomy s out m message k to → at ≡ record_at start p → copies_of p.thread k ≡ pre ++ (w ∷ post) → copy ≡ w.place + 1
      → 1 ≤ arity → arity ≤ 2 → 2 * length post + 3 ≤ left + arity → Shown start said r (copy_moves_from k p arity w post x y)

-- If the answer is yes, whatever thread has its record there has no silent step in its copies.
pub record NoSilent (s : List ℕ) (at : ℕ) (out : List ℕ) (r : Bool) : Type 0 where
  pub exact : r ≡ true → (p : Focus) (k : ℕ) {next : ℕ} → RecordAt s out at p.thread next
      → flat_map (group_moves p) (copies_of p.thread k) ≡ []

-- The next repl thread after the one at a mark, or the first one; a traversal that goes on has found none.
abbrev pub ShowsCopy : Progress → List Opened → Type 0
ShowsCopy r [] = r.going ≡ true
ShowsCopy r (w ∷ ws) = (r.going ≡ false) × (r.mark ≡ w.place + 1)

pub record Finds (s : List ℕ) (at k to : ℕ) (m : List ℕ) (copy : ℕ) (out : List ℕ) (r : Progress) : Type 0 where
  pub first : (t : Placed) → ThreadAt s out m at k to t → copy ≡ 0 → ShowsCopy r (copies_of t k)
  pub later : (t : Placed) (pre post : List Opened) (w : Opened) → ThreadAt s out m at k to t → copies_of t k ≡ pre ++ (w ∷ post)
      → copy ≡ w.place + 1 → ShowsCopy r post

-- The answer is the first of what is left behind one copy, or two.
pub record NextAfterCopies (s : List ℕ) (at k to : ℕ) (m : List ℕ) (copy arity left : ℕ) (out message : List ℕ) (r : Option Step)
    (said : List ℕ) : Type 0 where
  pub first : (start : ℕ) (p : Focus) → Threads s out at k (p.thread ∷ p.behind) to → Roomy s out m message k to → at ≡ record_at start p
      → copy ≡ 0 → arity ≡ 2 → 8192 ≤ left
      → Shown start said r (flat_map (group_moves p) (copies_of p.thread k) ++ copy_moves k (later_focuses p))
  pub later : (start : ℕ) (p : Focus) (pre post : List Opened) (w : Opened) → Threads s out at k (p.thread ∷ p.behind) to
      → Roomy s out m message k to → at ≡ record_at start p → copies_of p.thread k ≡ pre ++ (w ∷ post) → copy ≡ w.place + 1
      → 1 ≤ arity → arity ≤ 2 → 2 * length post + 2 ≤ left + arity
      → Shown start said r
      ((elim (eqb arity 1) [ true ↦ moved p 2 w (pairs_from 2 w 0 (senders w 0)) | false ↦ [] ])
      ++ flat_map (group_moves p) post ++ copy_moves k (later_focuses p))
