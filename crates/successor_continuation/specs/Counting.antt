-- The private names at which the rests of a step are settled, and the next one after them ("Steps").
use Rattle.std.specs.Prelude.{◌≡◌, List, ◌∷◌, ◌++◌, Option, Some, ℕ, ◌+◌, ◌≤◌}
use Rattle.meaning.specs.Messages.Term.{Message}
use Rattle.meaning.specs.Bytes.Process.{Prefix, Process}
use Rattle.meaning.specs.Steps.State.{Bound}
use Rattle.meaning.specs.Steps.Invariant.{BoundStored}
use Rattle.state_record.specs.Place.{ProcessAt}
use Rattle.state_record.specs.Record.{Placed, process_of, bound_of}
use Rattle.state_head.specs.Count.{count_of}
use Rattle.step_located.specs.Located.{LocatedOffer}
use Rattle.step_located.specs.Sought.{Opened}
use Rattle.state_task.specs.declared.task.CopyAt.{CopyAt}
use Rattle.step_transition.specs.Focus.{offers_of, copies_of}
use Rattle.state_layout.specs.Loaded.{IsRunOf}
use Rattle.successor_path.specs.Reach.{Site, Down, offer_site, copy_site, Arrives}
use Rattle.step_transition.specs.Outcome.{bound_after}
use Rattle.step_transition.specs.CopyOffers.{ThreadAt, copy_offers, Later}
use Rattle.successor_path.specs.declared.reach.Way.{Way}

-- Whatever process the thread comes to that has the mark, copies being opened at k: it is reached.
pub record Comes (s : List ℕ) (at k : ℕ) (m : List ℕ) (mark : ℕ) (out : List ℕ) (r : Way) (after : List ℕ) : Type 0 where
  pub exact : (t : Placed) (w : Site) {j to : ℕ} → ThreadAt s out m at j to t → j ≤ k → k ≤ 28664
      → Down (process_of t.thread) t.place (bound_of t.thread) 0 k w → mark ≡ w.place + 1 → Arrives s after r w

-- A repl thread that was reached, in whose copies an offer has the mark.
pub record Entered (s : List ℕ) (thread : Way) (m : List ℕ) (c : CopyAt) (mark : ℕ) (w : Opened) (a : LocatedOffer) : Type 0 where
  pub settled : ℕ
  pub arrived : Arrives s m thread (copy_site w settled)
  pub stored : BoundStored w.opens w.bound
  pub again : 1 ≤ c.arity
  pub later : Later c w
  pub excluded : ℕ
  pub before : List LocatedOffer
  pub behind : List LocatedOffer
  pub listed : copy_offers excluded c w ≡ before ++ (a ∷ behind)
  pub meant : mark ≡ a.place + 1

-- That offer is reached.
pub record Enters (s : List ℕ) (thread : Way) (m : List ℕ) (c : CopyAt) (mark : ℕ) (r : Way) (after : List ℕ) : Type 0 where
  pub exact : (w : Opened) (a : LocatedOffer) → Entered s thread m c mark w a → (i : ℕ) × Arrives s after r (offer_site a i)

-- Whatever offer in the copies of a repl thread of the thread has the mark: it is reached.
pub record ComesIn (s : List ℕ) (at k : ℕ) (m : List ℕ) (c : CopyAt) (mark : ℕ) (out : List ℕ) (r : Way) (after : List ℕ) : Type 0 where
  pub exact : (t : Placed) (pre post : List Opened) (w : Opened) (before behind : List LocatedOffer) (a : LocatedOffer) {to : ℕ} → ThreadAt s out m at k to t
      → copies_of t k ≡ pre ++ (w ∷ post) → c.place ≡ w.place + 1 → 1 ≤ c.arity → Later c w → (excluded : ℕ)
      → copy_offers excluded c w ≡ before ++ (a ∷ behind) → mark ≡ a.place + 1 → (i : ℕ) × Arrives s after r (offer_site a i)

-- Where there is an answer, what follows whatever output or input stands at the mark takes names up to that one, settled at n under whatever
-- messages.
pub record FixedBehind (s : List ℕ) (mark n : ℕ) (r : Option ℕ) : Type 0 where
  pub exact : {last : ℕ} → r ≡ Some last → (p : Prefix) (P : Process) (ρ : Bound) {at left scope next : ℕ} → mark ≡ at + 1
      → ProcessAt s at left scope (Process.act p P) next → Some last ≡ count_of P ρ n

-- Whatever offer of the thread has the mark, copies being opened at k: the private names after what follows it, settled at n.
pub record Counts (s argument : List ℕ) (at k : ℕ) (m : List ℕ) (mark n : ℕ) (out : List ℕ) (r : Option ℕ) : Type 0 where
  pub exact : (t : Placed) (x : Message) (before after : List LocatedOffer) (a : LocatedOffer) {j to : ℕ} → ThreadAt s out m at j to t → IsRunOf argument x
      → j ≤ k → k ≤ 28664 → n ≤ 28664 → offers_of t k ≡ before ++ (a ∷ after) → mark ≡ a.place + 1
      → r ≡ count_of a.rest (bound_after x a) n

-- The same for an offer in the copies of a repl thread of the thread.
pub record CountsIn (s argument : List ℕ) (at k : ℕ) (m : List ℕ) (c : CopyAt) (mark n : ℕ) (out : List ℕ) (r : Option ℕ) : Type 0 where
  pub exact : (t : Placed) (x : Message) (pre post : List Opened) (w : Opened) (before after : List LocatedOffer) (a : LocatedOffer) {to : ℕ}
      → ThreadAt s out m at k to t → IsRunOf argument x → n ≤ 28664 → copies_of t k ≡ pre ++ (w ∷ post) → c.place ≡ w.place + 1
      → 1 ≤ c.arity → Later c w → (excluded : ℕ) → copy_offers excluded c w ≡ before ++ (a ∷ after) → mark ≡ a.place + 1
      → r ≡ count_of a.rest (bound_after x a) n
