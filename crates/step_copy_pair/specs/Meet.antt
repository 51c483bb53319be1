-- Silent steps in the copies of one thread: the next pair of a sender and a taker ("Steps").
use Rattle.std.specs.Prelude.{◌≡◌, true, Option, None, List, [], ◌∷◌, ◌++◌, ℕ, ◌+◌, ◌≤◌, length}
use Rattle.meaning.specs.Messages.Term.{Message}
use Rattle.state_record.specs.Record.{Placed}
use Rattle.state_progress.specs.Represented.{Found}
use Rattle.state_task.specs.declared.task.Quest.{Quest}
use Rattle.state_task.specs.declared.task.CopyAt.{CopyAt}
use Rattle.state_progress.specs.declared.progress.Progress.{Progress}
use Rattle.step_located.specs.Located.{LocatedOffer}
use Rattle.step_located.specs.Sought.{wanted, sent_by, Opened}
use Rattle.step_transition.specs.Focus.{Focus, record_at, copies_of, filter}
use Rattle.state_layout.specs.Loaded.{IsRunOf}
use Rattle.step_transition.specs.Step.{Shown}
use Rattle.step_label.specs.declared.step.Step.{Step}
use Rattle.step_transition.specs.CopyOffers.{ThreadAt, copy_offers, Later, pairs_of, pairs_from, senders, moved}

-- The copies of the repl thread at a mark, by number and by the name at which a second one opens.
abbrev pub copy_at : (place arity second : ℕ) → CopyAt
copy_at place arity second = record { place = place; arity = arity; second = second }

-- A traversal that seeks an offer has found the first of these, or goes on where there is none.
abbrev pub ShowsFirst : (out : List ℕ) → Progress → List LocatedOffer → Type 0
ShowsFirst out r [] = r.going ≡ true
ShowsFirst out r (a ∷ others) = Found out r a.place a.next (sent_by a)

-- Whatever thread has its record there, the answer shows the first offer that is wanted in the copies of the repl thread that is meant.
pub record Looks (s argument : List ℕ) (at k to : ℕ) (m : List ℕ) (q : Quest) (c : CopyAt) (out : List ℕ) (r : Progress) (after : List ℕ)
    : Type 0 where
  pub nowhere : (t : Placed) (x : Message) → ThreadAt s out m at k to t → IsRunOf argument x → c.place ≡ 0 → c.second ≤ 28664
      → r.going ≡ true
  pub exact : (t : Placed) (x : Message) (pre post : List Opened) (w : Opened) → ThreadAt s out m at k to t → IsRunOf argument x
      → copies_of t k ≡ pre ++ (w ∷ post) → c.place ≡ w.place + 1 → Later c w
      → ShowsFirst after r (filter (wanted q x) (copy_offers q.excluded c w))

-- The thread of a focus, with a repl thread of it.
pub record CopyOf (s out m : List ℕ) (start at k to : ℕ) (p : Focus) (arity copy : ℕ) (w : Opened) : Type 0 where
  pub thread : ThreadAt s out m at k to p.thread
  pub position : at ≡ record_at start p
  pub pre : List Opened
  pub post : List Opened
  pub listed : copies_of p.thread k ≡ pre ++ (w ∷ post)
  pub meant : copy ≡ w.place + 1
  pub arity_low : 1 ≤ arity
  pub arity_high : arity ≤ 2

-- The first sender from x on.
pub record NextCopySender (s : List ℕ) (at k to : ℕ) (m : List ℕ) (copy x : ℕ) (out : List ℕ) (r : Progress) (after : List ℕ) : Type 0 where
  pub nowhere : (t : Placed) → ThreadAt s out m at k to t → copy ≡ 0 → r.going ≡ true
  pub exact : (start : ℕ) (p : Focus) (w : Opened) {arity : ℕ} → CopyOf s out m start at k to p arity copy w
      → ShowsFirst after r (senders w x)

-- One sender, found already, and its takers from y on; and all senders from x on.
pub record Pairs (s : List ℕ) (at k to : ℕ) (m : List ℕ) (copy arity : ℕ) (now : Progress) (y : ℕ) (out : List ℕ) (message : List ℕ)
    (r : Option Step) (said : List ℕ) : Type 0 where
  pub exact : (start : ℕ) (p : Focus) (w : Opened) (x : ℕ) (a : LocatedOffer) (others : List LocatedOffer) → CopyOf s out m start at k to p arity copy w
      → senders w x ≡ a ∷ others → Found out now a.place a.next (sent_by a) → 510 ≤ length message
      → Shown start said r (moved p arity w (pairs_of arity w y a))

-- The same, the channel being copied to a slice.
pub record PairsIn (channel s : List ℕ) (at k to : ℕ) (m : List ℕ) (copy arity : ℕ) (now : Progress) (y : ℕ) (out : List ℕ)
    (message : List ℕ) (r : Option Step) (said : List ℕ) : Type 0 where
  pub exact : 510 ≤ length channel → Pairs s at k to m copy arity now y out message r said

pub record NextPair (s : List ℕ) (at k to : ℕ) (m : List ℕ) (copy arity : ℕ) (now : Progress) (y : ℕ) (out : List ℕ) (message : List ℕ)
    (r : Option Step) (said : List ℕ) : Type 0 where
  pub exact : (start : ℕ) (p : Focus) (w : Opened) (x : ℕ) (a : LocatedOffer) (others : List LocatedOffer) → CopyOf s out m start at k to p arity copy w
      → senders w x ≡ a ∷ others → Found out now a.place a.next (sent_by a) → 510 ≤ length message
      → Shown start said r (moved p arity w (pairs_from arity w y (a ∷ others)))

pub record Meets (s : List ℕ) (at k to : ℕ) (m : List ℕ) (copy arity x y : ℕ) (out : List ℕ) (message : List ℕ) (r : Option Step)
    (said : List ℕ) : Type 0 where
  pub nowhere : (t : Placed) → ThreadAt s out m at k to t → copy ≡ 0 → r ≡ None
  pub exact : (start : ℕ) (p : Focus) (w : Opened) → CopyOf s out m start at k to p arity copy w → 510 ≤ length message
      → Shown start said r (moved p arity w (pairs_from arity w y (senders w x)))
