-- The private names of the rests of a step ("Steps").
use Rattle.std.specs.Prelude.{◌≡◌, Bool, true, false, List, ◌∷◌, ◌++◌, Option, Some, None, ℕ, ◌≤◌}
use Rattle.meaning.specs.Messages.Term.{Message}
use Rattle.meaning.specs.Steps.State.{State}
use Rattle.state_record.specs.declared.state.State as code
use Rattle.state_task.specs.declared.task.CopyAt.{CopyAt}
use Rattle.step_located.specs.Located.{LocatedOffer}
use Rattle.step_located.specs.CopyStep.{Pair}
use Rattle.step_located.specs.Sought.{Opened}
use Rattle.step_transition.specs.Focus.{Focus, record_at, offers_of, copies_of}
use Rattle.step_transition.specs.Moves.{Move, alone}
use Rattle.step_transition.specs.Outcome.{bound_after, last_of, outcome}
use Rattle.state_layout.specs.Loaded.{IsRunOf}
use Rattle.state_head.specs.Count.{count_of}
use Rattle.step_transition.specs.CopyOffers.{ThreadAt, Later, copy_offers, takers_at, excluded_by, copy_step_with}
use Rattle.step_transition.specs.Step.{actor, step_of}
use Rattle.step_transition.specs.WithinLimits.{WithinLimits}
use Rattle.step_transition.specs.Moving.{Moving, Leading}
use Rattle.step_label.specs.declared.step.Step as step
use Rattle.step_label.specs.declared.step.Actor.{Actor}
use Rattle.step_label.specs.declared.step.Label.TheVariants.{Silent}
use Rattle.successor_continuation.specs.declared.names.Rests.{Rests}

-- Where the rest of the taker of a silent step is settled.
unfoldable pub last_for : Move → ℕ
last_for (alone p a) = 0
last_for (Move.inside p w) = last_of w.pair
last_for (Move.between p q w) = last_of w

-- The private names of the rests, or none where one meets a limit while it is settled.
abbrev pub rests_at : (last next : ℕ) → Option Rests
rests_at last next = Some (record { last = last; next = next })

abbrev pub rests_of : (large : Bool) → (last next : ℕ) → Option Rests
rests_of true last next = None
rests_of false last next = rests_at last next

-- The rest of one thread alone, and that of a taker after that of the sender.
abbrev pub only_of : Option ℕ → Option Rests
only_of (Some next) = rests_at 0 next
only_of None = None

abbrev pub then_of : (last : ℕ) → Option ℕ → Option Rests
then_of last (Some next) = rests_at last next
then_of last None = None

-- The copies in which the taker of a silent step is, if that is in the thread of the sender.
abbrev pub step_copies : step.Step → CopyAt
step_copies v = record { place = v.copy; arity = v.arity; second = v.sender.next }

-- The private names of its rests.
pub record Settles (s : List ℕ) (st : code.State) (v : step.Step) (message m out : List ℕ) (r : Option Rests) : Type 0 where
  pub exact : (S : State) (h : WithinLimits s out st S) (x : Message) (w : Move) → Moving s out st S h v x w message → Leading s st S m out
      → let o = outcome h.at.placed S.next x w in r ≡ rests_of o.large (last_for w) o.next

-- The same for a silent step.
pub record SettlesSilent (s : List ℕ) (st : code.State) (v : step.Step) (message m out : List ℕ) (r : Option Rests) : Type 0 where
  pub exact : v.label ≡ Silent → Settles s st v message m out r

-- Whatever offer of a thread of the state acts, copies being opened at k: the private names after what follows it, settled at n.
pub record CountsActor (s : List ℕ) (st : code.State) (v : Actor) (k n : ℕ) (message m out : List ℕ) (r : Option ℕ) : Type 0 where
  pub exact : (p : Focus) (a : LocatedOffer) (x : Message) (before after : List LocatedOffer)
      → ThreadAt s out m (record_at st.start p) k st.end p.thread → IsRunOf message x → n ≤ 28664
      → offers_of p.thread k ≡ before ++ (a ∷ after) → v ≡ actor st.start p a → r ≡ count_of a.rest (bound_after x a) n

-- Whatever takes in a silent step: an offer of another thread, whose copies open after those of the sender; or one in the copies of a
-- repl thread w of the thread.
pub record CountsTaker (s : List ℕ) (st : code.State) (v : step.Step) (n : ℕ) (message m out : List ℕ) (r : Option ℕ) : Type 0 where
  pub between : (p q : Focus) (u : Pair) (x : Message) (before after : List LocatedOffer) {k : ℕ}
      → ThreadAt s out m (record_at st.start q) k st.end q.thread → IsRunOf message x → k ≤ u.sender.next
      → u.sender.next ≤ 28664 → n ≤ 28664 → offers_of q.thread u.sender.next ≡ before ++ (u.taker ∷ after)
      → v ≡ step_of st.start (Move.between p q u) → r ≡ count_of u.taker.rest (bound_after x u.taker) n
  pub inside : (p : Focus) (arity : ℕ) (w : Opened) (u : Pair) (x : Message) (pre post : List Opened) (before after : List LocatedOffer)
      → ThreadAt s out m (record_at st.start p) st.names st.end p.thread → IsRunOf message x
      → copies_of p.thread st.names ≡ pre ++ (w ∷ post) → 1 ≤ arity → Later (takers_at arity w u.sender) w → n ≤ 28664
      → copy_offers (excluded_by arity u.sender) (takers_at arity w u.sender) w ≡ before ++ (u.taker ∷ after)
      → v ≡ step_of st.start (Move.inside p (copy_step_with arity w u)) → r ≡ count_of u.taker.rest (bound_after x u.taker) n
