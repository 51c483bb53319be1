-- The state that a step leads to without its threads, and what follows the processes that act, settled by itself ("Judging and its count").
use Rattle.std.specs.Prelude.{◌≡◌, Bool, true, false, List, [], ◌∷◌, ◌++◌, ℕ, ◌+◌, ◌≤◌, Option, Some}
use Rattle.meaning.specs.Messages.Term.{Message}
use Rattle.meaning.specs.Steps.State.{State}
use Rattle.meaning.specs.Judging.Visits.{Arrival, arrived}
use Rattle.state_record.specs.Place.{rest_at}
use Rattle.state_progress.specs.TraversalResult.{Accumulated, TraversalResult, further}
use Rattle.state_progress.specs.Represented.{Represents, RepresentsResult}
use Rattle.state_record.specs.declared.state.State as code
use Rattle.state_progress.specs.declared.progress.Progress.{Progress}
use Rattle.state_layout.specs.Layout.{StateAt, over_arrival}
use Rattle.state_layout.specs.Loaded.{nothing_yet, IsRunOf}
use Rattle.state_task.specs.declared.task.Task.TheVariants.{Settle}
use Rattle.state_head.specs.Traversal.{go}
use Rattle.step_located.specs.Located.{LocatedOffer}
use Rattle.step_located.specs.CopyStep.{Pair}
use Rattle.step_located.specs.Sought.{Opened}
use Rattle.step_transition.specs.Focus.{Focus, record_at, offers_of, copies_of}
use Rattle.step_transition.specs.Moves.{Move, alone, inside, between}
use Rattle.step_transition.specs.Outcome.{bound_after, outcome, arrival_of}
use Rattle.step_transition.specs.CopyOffers.{ThreadAt, Later, copy_offers, takers_at, excluded_by, copy_step_with}
use Rattle.step_transition.specs.Step.{actor, step_of}
use Rattle.step_transition.specs.WithinLimits.{WithinLimits}
use Rattle.step_transition.specs.Moving.{carried, Leading, Moving}
use Rattle.step_label.specs.declared.step.Step as step
use Rattle.step_label.specs.declared.step.Actor.{Actor}
use Rattle.step_label.specs.declared.step.Label.TheVariants.{Silent}
use Rattle.successor_threadless.specs.declared.excess.Excess.{Excess}

-- The same state without its threads.
abbrev pub threadless_of : Arrival → Arrival
threadless_of A = arrived A.large (record { threads = []; aliases = A.state.aliases; next = A.state.next })

-- For those that look at the threads of a state, or do not, only the state itself will do, or also this one if it is within its limits.
pub data StandsFor : (stepless : Bool) → Arrival → Arrival → Type 0 where
  itself : {stepless : Bool} {A : Arrival} → StandsFor stepless A A
  threadless : {A : Arrival} → over_arrival A ≡ false → StandsFor true A (threadless_of A)

-- What follows the process of an offer, settled, y being the message that goes.
abbrev pub rest_from : Message → LocatedOffer → Accumulated → TraversalResult
rest_from y a g = go a.rest Settle y (rest_at a.place a.prefix) (bound_after y a) g

-- What follows a sender and a taker, the one after the other.
abbrev pub both_from : Message → Pair → TraversalResult
both_from y w = further (rest_from y w.sender (nothing_yet w.taker.next)) (rest_from y w.taker)

-- What follows the processes that act in a step.
unfoldable pub settled_rests : Message → Move → TraversalResult
settled_rests y (alone p a) = rest_from y a (nothing_yet a.next)
settled_rests y (inside p w) = both_from y w.pair
settled_rests y (between p q w) = both_from y w

-- Whatever offer of a thread of the state acts, copies being opened at k: what follows it is settled. A traversal that goes no further is left as
-- it is.
pub record FollowsOffer (s : List ℕ) (st : code.State) (v : Actor) (k : ℕ) (message m out : List ℕ) (now r : Progress) (after : List ℕ) : Type 0
  where
    pub stopped : now.going ≡ false → (r ≡ now) × (after ≡ out)
    pub exact : (p : Focus) (a : LocatedOffer) (y : Message) (g : Accumulated) (before behind : List LocatedOffer) {j : ℕ}
        → ThreadAt s out m (record_at st.start p) j st.end p.thread → IsRunOf message y → j ≤ k → k ≤ 28664 → g.names ≤ 28664
        → offers_of p.thread k ≡ before ++ (a ∷ behind) → v ≡ actor st.start p a → Represents s out now g → RepresentsResult s after r (rest_from y a g)

-- The same for a taker in the copies of a repl thread w of the thread of the sender.
pub record FollowsIn (s : List ℕ) (st : code.State) (v : step.Step) (message m out : List ℕ) (now r : Progress) (after : List ℕ) : Type 0 where
  pub stopped : now.going ≡ false → (r ≡ now) × (after ≡ out)
  pub exact : (p : Focus) (arity : ℕ) (w : Opened) (u : Pair) (y : Message) (g : Accumulated) (pre post : List Opened) (before behind : List LocatedOffer)
      → ThreadAt s out m (record_at st.start p) st.names st.end p.thread → IsRunOf message y
      → copies_of p.thread st.names ≡ pre ++ (w ∷ post) → 1 ≤ arity → Later (takers_at arity w u.sender) w → g.names ≤ 28664
      → copy_offers (excluded_by arity u.sender) (takers_at arity w u.sender) w ≡ before ++ (u.taker ∷ behind)
      → v ≡ step_of st.start (inside p (copy_step_with arity w u)) → Represents s out now g → RepresentsResult s after r (rest_from y u.taker g)

-- Whatever step of whatever state this is: what follows the processes that act is settled.
pub record Settles (s : List ℕ) (st : code.State) (v : step.Step) (message m out : List ℕ) (r : Progress) (after : List ℕ) : Type 0 where
  pub exact : (S : State) (h : WithinLimits s out st S) (x : Message) (w : Move) → Moving s out st S h v x w message → Leading s st S m out
      → RepresentsResult s after r (settled_rests (carried x w) w)

-- The same for a silent step.
pub record SettlesBoth (s : List ℕ) (st : code.State) (v : step.Step) (message m out : List ℕ) (r : Progress) (after : List ℕ) : Type 0 where
  pub exact : v.label ≡ Silent → Settles s st v message m out r after

-- Four numbers together are within a limit.
pub record Bounds (limit a b c d : ℕ) (r : Bool) : Type 0 where
  pub exact : r ≡ true → a + b + c + d ≤ limit

-- If it fits, there is room for it in the state that is left, for what the copies add, and for a message of so many bytes.
pub record RoomForStep (st : code.State) (e : Excess) (r : Progress) (size : ℕ) : Type 0 where
  pub on : r.going ≡ true
  pub threads : st.threads + e.threads + r.state.threads ≤ 32
  pub nodes : st.nodes + e.nodes + r.state.nodes + size ≤ 1024
  pub names : r.names ≤ 128

pub record Fits (st : code.State) (e : Excess) (r : Progress) (size : ℕ) (b : Bool) : Type 0 where
  pub room : b ≡ true → RoomForStep st e r size

-- If a state is formed, the one that the step leads to is within its limits, and this is that state without its threads.
pub record FormsThreadless (s : List ℕ) (st : code.State) (v : step.Step) (message m out : List ℕ) (r : Option code.State) (after : List ℕ) : Type 0 where
  pub exact : (S : State) (h : WithinLimits s out st S) (x : Message) (w : Move) → Moving s out st S h v x w message → Leading s st S m out
      → (threadless : code.State) → r ≡ Some threadless
      → let A = arrival_of S (outcome h.at.placed S.next x w) in
      (over_arrival A ≡ false) × StateAt s after threadless (threadless_of A).state × (threadless.aliases ≡ st.end)
