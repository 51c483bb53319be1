-- The next offer among the threads of a state ("Steps").
use Rattle.std.specs.Prelude.{◌≡◌, true, false, List, [], ◌∷◌, ℕ, ◌+◌, ◌≤◌, eqb, length, get_or}
use Rattle.meaning.specs.Messages.Term.{Message}
use Rattle.meaning.specs.Bytes.Standing.{Stands}
use Rattle.buffer.specs.Word.{number_at}
use Rattle.state_record.specs.Record.{Placed, encode_record}
use Rattle.state_progress.specs.TraversalResult.{going}
use Rattle.state_progress.specs.Represented.{RepresentsResult, encode_messages}
use Rattle.state_task.specs.declared.task.Quest.{Quest}
use Rattle.state_progress.specs.declared.progress.Progress.{Progress}
use Rattle.step_located.specs.Located.{LocatedOffer}
use Rattle.step_located.specs.Sought.{wanted, sent_by, first}
use Rattle.step_transition.specs.Focus.{offers_of}
use Rattle.step_transition.specs.Threads.{Judged, Threads}
use Rattle.state_layout.specs.Loaded.{nothing_yet, IsRunOf, RecordAt}
use Rattle.step_offer.specs.declared.seek.Sighting.{Sighting}
use Rattle.index_process.specs.Index.{ShortModel}

-- No offer; or one of the thread whose record stands at a position.
pub data Sight : Type 0 where
  unseen : Sight
  seen : (at : ℕ) → LocatedOffer → Sight

-- The same quest from another position on.
abbrev pub starting_at : Quest → (from : ℕ) → Quest
starting_at q from = record { output = q.output; any = q.any; from = from; excluded = q.excluded }

-- The first of the offers of one thread, or else what is seen later.
unfoldable pub first_of : Quest → Message → (at : ℕ) → List LocatedOffer → Sight → Sight
first_of q x at [] later = later
first_of q x at (a ∷ others) later = elim (wanted q x a) [ true ↦ seen at a | false ↦ first_of q x at others later ]

-- The first among threads whose records stand from a position on, copies being opened at k, but none of the thread whose record stands at the
-- position skip.
unfoldable pub first_among : Quest → Message → (k skip at : ℕ) → List Placed → Sight
first_among q x k skip at [] = unseen
first_among q x k skip at (t ∷ ts) =
    let later = first_among (starting_at q 0) x k skip (at + length (encode_record t)) ts in
    elim (eqb at skip) [ true ↦ later | false ↦ first_of q x at (offers_of t k) later ]

-- What is seen, as numbers and bytes.
pub record Sees (out : List ℕ) (r : Sighting) (place : ℕ) (a : LocatedOffer) : Type 0 where
  pub at : r.at ≡ place
  pub mark : r.done.mark ≡ a.place + 1
  pub next : r.done.names ≡ a.next
  pub messages : Stands out r.done.sent (encode_messages (sent_by a)) r.done.state.end

abbrev pub ShowsSight : (out : List ℕ) → Sighting → Sight → Type 0
ShowsSight out r unseen = r.done.mark ≡ 0
ShowsSight out r (seen at a) = Sees out r at a

-- Whatever thread has its record at a position, the traversal of it comes to the first of its offers.
pub record Looks (s argument : List ℕ) (at to : ℕ) (m : List ℕ) (q : Quest) (names : ℕ) (out : List ℕ) (r : Progress) (after : List ℕ)
    : Type 0 where
  pub exact : (t : Placed) (x : Message) {k next : ℕ} → RecordAt s out at t next → Judged k t → k ≤ names → q.excluded ≡ 0 → IsRunOf argument x
      → ShortModel s → 10750 ≤ length m → to + 3964 ≤ length out → names ≤ 28664
      → RepresentsResult s after r (first q x (offers_of t names) (going (nothing_yet names)))

-- The same, if its process stands at the position place and is no repl.
pub record Alone (s argument : List ℕ) (at place to : ℕ) (m : List ℕ) (q : Quest) (names : ℕ) (out : List ℕ) (r : Progress) (after : List ℕ)
    : Type 0 where
  pub exact : place ≡ number_at out at → (get_or s place 0 ≡ 7 → ⊥) → Looks s argument at to m q names out r after

-- Whatever threads stand from a position to another, the answer and the bytes show the first offer among them.
pub record Seeks (s argument : List ℕ) (at to : ℕ) (m : List ℕ) (q : Quest) (skip names : ℕ) (out : List ℕ) (r : Sighting) (after : List ℕ)
    : Type 0 where
  pub exact : (ps : List Placed) (x : Message) {k : ℕ} → Threads s out at k ps to → k ≤ names → q.excluded ≡ 0 → IsRunOf argument x
      → ShortModel s → 10750 ≤ length m → to + 3964 ≤ length out → names ≤ 28664
      → ShowsSight after r (first_among q x names skip at ps)
