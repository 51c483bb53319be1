-- Records of threads that surely have no offer of a quest ("Steps").
use Rattle.std.specs.Prelude.{◌≡◌, Bool, true, false, List, ◌∷◌, ℕ, ◌+◌, ◌-◌, ◌≤◌, ◌<◌, length}
use Rattle.meaning.specs.Messages.Term.{Term, Message}
use Rattle.meaning.specs.Messages.Normal.{same}
use Rattle.meaning.specs.Bytes.Encoding.{encode_term}
use Rattle.meaning.specs.Bytes.Standing.{Stands}
use Rattle.meaning.specs.Steps.State.{Bound, worked}
use Rattle.message_bytes.specs.Encoding.{encode_message}
use Rattle.buffer.specs.Word.{number_at}
use Rattle.state_record.specs.Record.{Placed, encode_record, Standing}
use Rattle.state_task.specs.declared.task.Quest.{Quest}
use Rattle.step_transition.specs.Focus.{offers_of}
use Rattle.state_layout.specs.Loaded.{RecordAt}
use Rattle.step_offer.specs.Seek.{Sight, first_of, first_among, starting_at, Seeks}
use Rattle.step_offer.specs.declared.pass.Passed.{Passed}
use Rattle.step_offer.specs.declared.seek.Sighting.{Sighting}

-- If the answer is yes, whatever term stands there has another message than the label, whatever messages are bound.
pub record Differs (s argument : List ℕ) (at : ℕ) (r : Bool) : Type 0 where
  pub exact : r ≡ true → (C : Term) (ρ : Bound) (x : Message) {end : ℕ} → Stands s at (encode_term C) end → argument ≡ encode_message x
      → same (worked ρ C) x ≡ false

-- If it is, whatever thread has its process there has no offer of the quest: the first one is seen later.
pub record NoOffer (s argument : List ℕ) (place : ℕ) (q : Quest) (r : Bool) : Type 0 where
  pub exact : r ≡ true → (t : Placed) (x : Message) (k at : ℕ) (later : Sight) → t.place ≡ place → Standing s t → q.excluded ≡ 0
      → argument ≡ encode_message x → first_of q x at (offers_of t k) later ≡ later

-- If it is, the record is gone over; if it is not, it is not the one at the position skip.
pub record Skips (s argument : List ℕ) (at : ℕ) (q : Quest) (skip : ℕ) (out : List ℕ) (r : Bool) : Type 0 where
  pub exact : r ≡ true → (t : Placed) (ts : List Placed) (x : Message) (k : ℕ) {next : ℕ} → RecordAt s out at t next → q.excluded ≡ 0
      → argument ≡ encode_message x
      → first_among q x k skip at (t ∷ ts) ≡ first_among (starting_at q 0) x k skip (at + length (encode_record t)) ts
  pub other : r ≡ false → at ≡ skip → ⊥

-- What the quest f seeks from the position i on is what the quest q seeks from the position at on.
pub record SeeksAlike (s argument : List ℕ) (at to : ℕ) (q : Quest) (skip : ℕ) (out : List ℕ) (i : ℕ) (f : Quest) : Type 0 where
  pub same : (m : List ℕ) (k : ℕ) {r : Sighting} {after : List ℕ} → Seeks s argument i to m f skip k out r after
      → Seeks s argument at to m q skip k out r after

-- So it is from the answer on, and the record there is not the one at the position skip.
pub record PassesRecords (s argument : List ℕ) (at to : ℕ) (q : Quest) (skip : ℕ) (out : List ℕ) (r : Passed) : Type 0 where
  pub onward : SeeksAlike s argument at to q skip out r.at (starting_at q r.from)
  pub other : r.at < to → 4 ≤ to - r.at → r.at ≡ skip → ⊥

-- The same of what is sought behind the record at the position at.
pub record Behind (s argument : List ℕ) (at to : ℕ) (q : Quest) (skip : ℕ) (out : List ℕ) (r : Passed) : Type 0 where
  pub passes : PassesRecords s argument (at + 4 + number_at out (at + 2)) to (starting_at q 0) skip out r
