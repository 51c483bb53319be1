-- The state that an output or an input of a thread leads to that acts itself ("Steps"; "Judging and its count").
use Rattle.std.specs.Prelude.{◌≡◌, Bool, true, false, List, ◌∷◌, ◌++◌, ℕ, ◌+◌, ◌/◌, ◌≤◌, length, get_or, Option}
use Rattle.meaning.specs.Messages.Term.{Message}
use Rattle.meaning.specs.Steps.State.{State}
use Rattle.buffer.specs.Word.{number_at}
use Rattle.state_record.specs.Record.{Placed, encode_record}
use Rattle.state_progress.specs.TraversalResult.{Accumulated, TraversalResult, further}
use Rattle.state_progress.specs.Represented.{Represents, RepresentsResult}
use Rattle.state_record.specs.declared.state.State as code
use Rattle.state_progress.specs.declared.progress.Progress.{Progress}
use Rattle.state_start.specs.Form.{Forms}
use Rattle.state_layout.specs.Loaded.{IsRunOf}
use Rattle.successor_continuation.specs.Rest.{settled_behind}
use Rattle.step_located.specs.Located.{LocatedOffer}
use Rattle.step_located.specs.Rebuilt.{nodes_of, push_all}
use Rattle.step_transition.specs.Focus.{Focus, record_at}
use Rattle.step_transition.specs.Moves.{alone}
use Rattle.step_transition.specs.Outcome.{outcome, arrival_of}
use Rattle.step_transition.specs.Threads.{Threads}
use Rattle.step_transition.specs.CopyOffers.{ThreadAt}
use Rattle.step_transition.specs.Step.{actor}
use Rattle.step_transition.specs.WithinLimits.{WithinLimits}
use Rattle.step_transition.specs.Moving.{Leading, Moving}
use Rattle.step_label.specs.declared.step.Step as step
use Rattle.step_label.specs.declared.step.Actor.{Actor}
use Rattle.successor_rebuild.specs.Tasks.{sends}
use Rattle.successor_rebuild.specs.Block.{BlockOf}
use Rattle.successor_prefix.specs.declared.halves.Halves.{Halves}

-- What follows the thread at a focus.
abbrev pub behind_focus : Message → Focus → Accumulated → TraversalResult
behind_focus y p g = settled_behind p.thread.thread p.thread.place y g

-- Whatever thread has its record there: what follows it is settled. A traversal that goes no further is left as it is.
pub record ContinuesThread (s : List ℕ) (to at : ℕ) (message m out : List ℕ) (now r : Progress) (after : List ℕ) : Type 0 where
  pub stopped : now.going ≡ false → (r ≡ now) × (after ≡ out)
  pub exact : (t : Placed) (y : Message) (g : Accumulated) {k : ℕ} → ThreadAt s out m at k to t → IsRunOf message y → g.names ≤ 28664
      → Represents s out now g → RepresentsResult s after r (settled_behind t.thread t.place y g)

-- The threads before one, what follows it, and those behind it.
abbrev pub replaced_by : Message → Focus → Accumulated → TraversalResult
replaced_by y p g = further (further (push_all p.before g) (behind_focus y p)) (push_all p.behind)

-- Whatever thread has its record from a position to another, below the state that is being written, if the blocks have the threads before it
-- and behind it: so all are written. A traversal that goes no further is left as it is.
pub record Replaces (s : List ℕ) (st : code.State) (at next : ℕ) (b : Halves) (message m out : List ℕ) (now r : Progress) (after : List ℕ) : Type 0
  where
    pub stopped : now.going ≡ false → r ≡ now
    pub exact : (p : Focus) (y : Message) (g : Accumulated) {k : ℕ} → Threads s out st.start k (p.before ++ (p.thread ∷ p.behind)) st.end
        → at ≡ record_at st.start p → next ≡ at + length (encode_record p.thread) → ThreadAt s out m at k st.end p.thread
        → BlockOf out st.start p.before b.before → BlockOf out next p.behind b.behind → IsRunOf message y → g.names ≤ 28664
        → st.end ≤ now.state.end → Represents s out now g → RepresentsResult s after r (replaced_by y p g)

-- The nodes of a message that is sent, if one is, whose run has so many bytes.
abbrev pub sent_nodes : (q : Bool) → (size : ℕ) → ℕ
sent_nodes true size = size / 2
sent_nodes false size = 0

-- What the nodes of a state are without those of its aliases and of one thread.
pub record Others (st : code.State) (q : Bool) (size : ℕ) (begun : Progress) (own r : ℕ) : Type 0 where
  pub exact : (aliases others : ℕ) → st.nodes ≡ others + own + aliases → begun.state.nodes ≡ aliases + sent_nodes q size → r ≡ others

-- Whatever thread has its record there, the blocks have those before it and behind it.
pub record Around (out : List ℕ) (st : code.State) (at next : ℕ) (q : Bool) (size : ℕ) (begun : Progress) (b : Halves) : Type 0 where
  pub exact : (s : List ℕ) (p : Focus) (aliases : ℕ) {k : ℕ} → let ps = p.before ++ (p.thread ∷ p.behind) in
      Threads s out st.start k ps st.end → at ≡ record_at st.start p → next ≡ at + length (encode_record p.thread)
      → st.threads ≡ length ps → st.nodes ≡ nodes_of ps + aliases → st.nodes ≤ 1024 → begun.state.nodes ≡ aliases + sent_nodes q size
      → BlockOf out st.start p.before b.before × BlockOf out next p.behind b.behind

-- Whatever step of such a thread this is: the state that it leads to.
pub record LeadsAlone (s : List ℕ) (st : code.State) (q : Bool) (u : Actor) (message m out : List ℕ) (r : Option code.State) (after : List ℕ) : Type 0 where
  pub exact : (v : step.Step) (S : State) (h : WithinLimits s out st S) (x : Message) (p : Focus) (a : LocatedOffer)
      → Moving s out st S h v x (alone p a) message → q ≡ sends v.label → u ≡ actor st.start p a → (get_or s p.thread.place 0 ≡ 7 → ⊥)
      → Leading s st S m out → Forms s st.end (arrival_of S (outcome h.at.placed S.next x (alone p a))) r after

-- The same, if the record of the thread ends there.
pub record LeadsUntil (s : List ℕ) (st : code.State) (q : Bool) (u : Actor) (next : ℕ) (message m out : List ℕ) (r : Option code.State) (after : List ℕ)
    : Type 0 where
  pub exact : {n : ℕ} → n ≡ number_at out (u.at + 2) → next ≡ u.at + 4 + n → LeadsAlone s st q u message m out r after
