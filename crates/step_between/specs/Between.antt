-- Silent steps of two threads: the next pair of a sender and a taker ("Steps").
use Rattle.std.specs.Prelude.{◌≡◌, Bool, true, false, Option, ℕ, ◌+◌, ◌≤◌, ◌<◌, length}
use mathlib.Core.List.{List, [], ◌∷◌, ◌++◌, map, flat_map}
use Rattle.meaning.specs.Messages.Term.{leaf, public, Message}
use Rattle.meaning.specs.Steps.State.{worked}
use Rattle.message_bytes.specs.Encoding.{encode_message}
use Rattle.state_record.specs.Record.{Placed, encode_records}
use Rattle.state_task.specs.declared.task.Quest.{Quest}
use Rattle.step_located.specs.Located.{LocatedOffer}
use Rattle.step_located.specs.CopyStep.{Pair, message_of}
use Rattle.step_located.specs.Sought.{wanted}
use Rattle.step_transition.specs.Focus.{Focus, focuses, focuses_from, record_at, offers_of, filter}
use Rattle.step_transition.specs.Threads.{Threads}
use Rattle.state_layout.specs.Loaded.{IsRunOf}
use Rattle.step_transition.specs.Moves.{Move, between, meetings}
use Rattle.step_transition.specs.Outcome.{same}
use Rattle.step_offer.specs.Seek.{Sight, unseen, seen, starting_at, Sees, ShowsSight}
use Rattle.step_transition.specs.CopyOffers.{outputs, inputs, channel_of}
use Rattle.step_transition.specs.CopyMoves.{later_focuses, Roomy}
use Rattle.step_transition.specs.Step.{actor}
use Rattle.step_label.specs.declared.step.Actor.{Actor}
use Rattle.step_between.specs.Buffered.{Buffered, Answered}
use Rattle.step_offer.specs.declared.seek.Sighting.{Sighting}
use Rattle.step_label.specs.declared.step.Step.{Step}

-- A thread of a state, and one of its offers.
pub record Party : Type 0 where
  pub focus : Focus
  pub offer : LocatedOffer

-- The offers of a quest among threads, f being what a thread offers. Where the quest begins matters in the first thread only.
unfoldable pub parties_from : Quest → Message → (f : Focus → List LocatedOffer) → List Focus → List Party
parties_from q x f [] = []
parties_from q x f (p ∷ ps) = map (λ a. record { focus = p; offer = a }) (filter (wanted q x) (f p)) ++ parties_from (starting_at q 0) x f ps

-- The senders among threads, copies being opened at k, in the first thread from the position x on. The message of the label does not matter.
unfoldable pub senders_from : (k x : ℕ) → List Focus → List Party
senders_from k x ps = parties_from (outputs x) (leaf (public 0)) (λ p. offers_of p.thread k) ps

-- What a thread offers to a sender, which is another thread: copies are opened at the sender's next name.
abbrev pub offered_to : Party → Focus → List LocatedOffer
offered_to w q = elim (same w.focus q) [ true ↦ [] | false ↦ offers_of q.thread w.offer.next ]

abbrev pub meeting_of : (sender taker : Party) → Move
meeting_of w u = between w.focus u.focus (record { sender = w.offer; taker = u.offer })

-- The meetings of a sender with the takers among threads, in the first thread from the position y on.
unfoldable pub takers_from : (sender : Party) → (y : ℕ) → List Focus → List Move
takers_from w y qs = map (meeting_of w) (parties_from (inputs y 0) (channel_of w.offer) (offered_to w) qs)

-- The meetings of the senders among ps, in the first thread from the position x on, with all takers. All threads are qs.
unfoldable pub between_from : (qs : List Focus) → (k : ℕ) → (ps : List Focus) → (x : ℕ) → List Move
between_from qs k ps x = flat_map (λ w. takers_from w 0 qs) (senders_from k x ps)

-- The first of these parties, as a traversal of records from start on sees it.
abbrev pub sight_of : (start : ℕ) → List Party → Sight
sight_of start [] = unseen
sight_of start (w ∷ others) = seen (record_at start w.focus) w.offer

-- A sender at a mark in the record at a position is later than x in the record at the position at.
pub record Ahead (at x to long place mark : ℕ) : Type 0 where
  pub some : 1 ≤ mark
  pub within : mark ≤ long
  pub below : place < to
  pub later : at ≤ place
  pub after : place ≡ at → x < mark

pub record IsAhead (at x to long place mark : ℕ) (r : Bool) : Type 0 where
  pub sound : r ≡ true → Ahead at x to long place mark
  pub complete : Ahead at x to long place mark → r ≡ true

-- The first sender from x on among the threads ts, before which ls stand.
pub record NextSender (s : List ℕ) (at k to : ℕ) (m : List ℕ) (x : ℕ) (out : List ℕ) (r : Sighting) (after : List ℕ) : Type 0 where
  pub exact : (start : ℕ) (ls ts : List Placed) {message : List ℕ} → Threads s out at k ts to → Roomy s out m message k to
      → at ≡ start + length (encode_records ls) → ShowsSight after r (sight_of start (senders_from k x (focuses_from ls ts)))

-- One sender of the threads ts, and its takers among ts' from y on; all threads are ps. The label is the sender's channel, and it stands at
-- the front of a slice; what it sends takes so many bytes and stands at the front of another.
pub record Takes (s argument : List ℕ) (to : ℕ) (m : List ℕ) (now : Actor) (taker y : ℕ) (out : List ℕ) (size : ℕ)
    (r : Option Step) : Type 0 where
  pub exact : (start k x : ℕ) (ps ls ts ls' ts' : List Placed) (w : Party) (others : List Party) (channel said message : List ℕ)
      → Threads s out start k ps to → Roomy s out m message k to → ps ≡ ls ++ ts → ps ≡ ls' ++ ts'
      → taker ≡ start + length (encode_records ls') → senders_from k x (focuses_from ls ts) ≡ w ∷ others
      → now ≡ actor start w.focus w.offer → IsRunOf argument (channel_of w.offer)
      → size ≡ length (encode_message (worked w.offer.bound (message_of w.offer.prefix)))
      → ((u : Party) → Buffered channel said (meeting_of w u)) → Answered start channel said r (takers_from w y (focuses_from ls' ts'))

-- A sender that was found, and all its takers: channel and message are copied from behind the state to two slices.
pub record Pairs (s : List ℕ) (start to : ℕ) (m : List ℕ) (now : Sighting) (out channel message : List ℕ) (r : Option Step)
    (on said : List ℕ) : Type 0 where
  pub exact : (k x : ℕ) (ps ls ts : List Placed) (w : Party) (others : List Party) → Threads s out start k ps to
      → Roomy s out m message k to → 510 ≤ length channel → ps ≡ ls ++ ts → senders_from k x (focuses_from ls ts) ≡ w ∷ others
      → Sees out now (record_at start w.focus) w.offer → Answered start on said r (takers_from w 0 (focuses ps))

-- The same, and then the senders after it with all their takers.
pub record NextMeeting (s : List ℕ) (start k to : ℕ) (m : List ℕ) (now : Sighting) (out channel message : List ℕ) (r : Option Step)
    (on said : List ℕ) : Type 0 where
  pub exact : (x : ℕ) (ps ls ts : List Placed) (w : Party) (others : List Party) → Threads s out start k ps to
      → Roomy s out m message k to → 510 ≤ length channel → ps ≡ ls ++ ts → senders_from k x (focuses_from ls ts) ≡ w ∷ others
      → Sees out now (record_at start w.focus) w.offer
      → Answered start on said r (flat_map (λ v. takers_from v 0 (focuses ps)) (w ∷ others))

-- Whatever threads ps stand from start on: the answer is the first of what is left, senders among ts from x on.
pub record Betweens (s : List ℕ) (start at k to : ℕ) (m : List ℕ) (x : ℕ) (out channel message : List ℕ) (r : Option Step)
    (on said : List ℕ) : Type 0 where
  pub exact : (ps ls ts : List Placed) → Threads s out start k ps to → Roomy s out m message k to → 510 ≤ length channel
      → ps ≡ ls ++ ts → at ≡ start + length (encode_records ls)
      → Answered start on said r (between_from (focuses ps) k (focuses_from ls ts) x)

-- A meeting of the threads ps: its sender is the first one from its own place on, and what comes after the meeting are those of this sender with
-- the takers behind its own, and then those of the senders after it.
pub record Resumed (k : ℕ) (ps : List Placed) (after : List Move) (p q : Focus) (v : Pair) : Type 0 where
  pub sending : ps ≡ p.before ++ (p.thread ∷ p.behind)
  pub taking : ps ≡ q.before ++ (q.thread ∷ q.behind)
  pub others : List Party
  pub again : senders_from k v.sender.place (p ∷ later_focuses p) ≡ record { focus = p; offer = v.sender } ∷ others
  pub left : takers_from (record { focus = p; offer = v.sender }) (v.taker.place + 1) (q ∷ later_focuses q)
      ++ between_from (focuses ps) k (p ∷ later_focuses p) (v.sender.place + 1) ≡ after

-- The meetings of the definitions are those from the beginning on; what is left behind one of them is what comes after it. The proofs are in
-- proofs/Laws/BetweenMoves.antt, under the same names in snake case.
abbrev pub BetweenAll : Type 0
BetweenAll = (k : ℕ) (ps : List Placed) → flat_map (meetings k (focuses ps)) (focuses ps) ≡ between_from (focuses ps) k (focuses ps) 0

abbrev pub BetweenResumed : Type 0
BetweenResumed =
    (k : ℕ) (ps : List Placed) (before after : List Move) (p q : Focus) (v : Pair)
    → flat_map (meetings k (focuses ps)) (focuses ps) ≡ before ++ (between p q v ∷ after) → Resumed k ps after p q v
