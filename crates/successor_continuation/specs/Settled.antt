-- What follows an offer of a thread, in its copies if need be, settled ("Steps").
use Rattle.std.specs.Prelude.{◌≡◌, Bool, true, List, ◌∷◌, ◌++◌, ℕ, ◌+◌, ◌≤◌, length}
use Rattle.meaning.specs.Messages.Term.{Message}
use Rattle.meaning.specs.Bytes.Process.{Prefix, Process}
use Rattle.state_record.specs.Place.{ProcessAt, rest_at}
use Rattle.state_record.specs.Record.{Placed}
use Rattle.state_progress.specs.TraversalResult.{Accumulated}
use Rattle.state_progress.specs.Represented.{Represents, RepresentsResult}
use Rattle.state_progress.specs.declared.progress.Progress.{Progress}
use Rattle.state_task.specs.declared.task.Task.TheVariants.{Settle}
use Rattle.state_task.specs.declared.task.CopyAt.{CopyAt}
use Rattle.state_head.specs.Traversal.{go}
use Rattle.step_located.specs.Located.{LocatedOffer}
use Rattle.step_located.specs.Sought.{Opened}
use Rattle.step_transition.specs.Focus.{offers_of, copies_of}
use Rattle.step_transition.specs.Outcome.{bound_after}
use Rattle.step_transition.specs.CopyOffers.{ThreadAt, copy_offers, Later}
use Rattle.state_layout.specs.Loaded.{IsRunOf}
use Rattle.successor_path.specs.Reach.{offer_site, Arrives}
use Rattle.successor_path.specs.declared.reach.Way.{Way}

-- If the answer is yes, nil follows whatever output or input stands at the mark.
pub record NilFollows (s : List ℕ) (mark : ℕ) (r : Bool) : Type 0 where
  pub exact : r ≡ true → (p : Prefix) (P : Process) {at left scope next : ℕ} → mark ≡ at + 1
      → ProcessAt s at left scope (Process.act p P) next → P ≡ Process.nil

-- An offer stands in the model, its process at most 64 nodes deep.
pub record OfferAt (s : List ℕ) (a : LocatedOffer) : Type 0 where
  pub left : ℕ
  pub next : ℕ
  pub shallow : left ≤ 64
  pub process : ProcessAt s a.place left (length a.bound) (Process.act a.prefix a.rest) next

-- Whatever offer the way has come to: what follows it is settled.
pub record SettlesAt (s argument : List ℕ) (way : Way) (m out : List ℕ) (now r : Progress) (after : List ℕ) : Type 0 where
  pub exact : (a : LocatedOffer) (x : Message) (g : Accumulated) {i : ℕ} → Arrives s m way (offer_site a i) → OfferAt s a → IsRunOf argument x
      → g.names ≤ 28664 → Represents s out now g → RepresentsResult s after r (go a.rest Settle x (rest_at a.place a.prefix) (bound_after x a) g)

-- Whatever offer of the thread has the mark, copies being opened at k: what follows it is settled.
pub record SettlesOffer (s argument : List ℕ) (at k : ℕ) (m : List ℕ) (mark : ℕ) (out : List ℕ) (now r : Progress) (after : List ℕ) : Type 0 where
  pub exact : (t : Placed) (x : Message) (before behind : List LocatedOffer) (a : LocatedOffer) (g : Accumulated) {j to : ℕ} → ThreadAt s out m at j to t
      → IsRunOf argument x → j ≤ k → k ≤ 28664 → g.names ≤ 28664 → offers_of t k ≡ before ++ (a ∷ behind) → mark ≡ a.place + 1
      → Represents s out now g → RepresentsResult s after r (go a.rest Settle x (rest_at a.place a.prefix) (bound_after x a) g)

-- The same for an offer in the copies of a repl thread of the thread.
pub record SettlesOfferIn (s argument : List ℕ) (at k : ℕ) (m : List ℕ) (c : CopyAt) (mark : ℕ) (out : List ℕ) (now r : Progress) (after : List ℕ)
    : Type 0 where
  pub exact : (t : Placed) (x : Message) (pre post : List Opened) (w : Opened) (before behind : List LocatedOffer) (a : LocatedOffer) (g : Accumulated) {to : ℕ}
      → ThreadAt s out m at k to t → IsRunOf argument x → g.names ≤ 28664 → copies_of t k ≡ pre ++ (w ∷ post) → c.place ≡ w.place + 1
      → 1 ≤ c.arity → Later c w → (excluded : ℕ) → copy_offers excluded c w ≡ before ++ (a ∷ behind) → mark ≡ a.place + 1 → Represents s out now g
      → RepresentsResult s after r (go a.rest Settle x (rest_at a.place a.prefix) (bound_after x a) g)
