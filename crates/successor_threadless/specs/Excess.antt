-- How many threads and nodes the copies that a step opens add to a state at most, besides what follows the processes that act ("Steps";
-- "Judging and its count").
use Rattle.std.specs.Prelude.{◌≡◌, List, [], ◌∷◌, ◌++◌, ℕ, ◌+◌, ◌*◌, ◌≤◌, length}
use Rattle.meaning.specs.Messages.Term.{Message}
use Rattle.meaning.specs.Steps.State.{State, repl}
use Rattle.state_record.specs.Record.{Placed}
use Rattle.state_record.specs.declared.state.State as code
use Rattle.step_located.specs.Located.{LocatedOffer}
use Rattle.step_located.specs.CopyStep.{Pair}
use Rattle.step_located.specs.Sought.{Opened}
use Rattle.step_located.specs.Rebuilt.{alone, nodes_of, left_at, rest_of}
use Rattle.step_transition.specs.Focus.{offers_of, copies_of}
use Rattle.step_transition.specs.Moves.{Move, inside, between}
use Rattle.step_transition.specs.Outcome.{replaced_in, bound_after, sender_rest, taker_rest, outcome}
use Rattle.step_transition.specs.CopyOffers.{ThreadAt, copy_step_with}
use Rattle.step_transition.specs.WithinLimits.{WithinLimits}
use Rattle.step_transition.specs.Moving.{Leading, Moving}
use Rattle.step_label.specs.declared.step.Step as step
use Rattle.successor_threadless.specs.declared.excess.Excess.{Excess}

-- What follows the processes that act in a step; x is the message of an input.
unfoldable pub rests_in : Message → Move → List Placed
rests_in x (Move.alone p a) = rest_of a (bound_after x a) a.next
rests_in x (inside p w) = sender_rest w.pair ++ taker_rest w.pair
rests_in x (between p q w) = sender_rest w ++ taker_rest w

-- What is left has at most so much in it besides what was there and what follows.
pub record Left (old rests left : List Placed) (e : Excess) : Type 0 where
  pub few : length left ≤ length old + e.threads + length rests
  pub light : nodes_of left ≤ nodes_of old + e.nodes + nodes_of rests

-- What a process that may grow so far adds, if its messages have so many bytes: two for each node, and more.
pub record Copies (growth size : ℕ) (e : Excess) : Type 0 where
  pub threads : e.threads ≡ growth
  pub nodes : (n : ℕ) → 2 * n ≤ size → growth * (n + growth) ≤ e.nodes

-- Three times as many.
abbrev pub thrice : Excess → Excess
thrice e = record { threads = e.threads + (e.threads + e.threads); nodes = e.nodes + (e.nodes + e.nodes) }

-- So it is with whatever thread has its record there and whatever offer of it acts, unless nothing is said; and three times so if two act in
-- the copies of a repl thread c of it.
pub record Opens (s : List ℕ) (to at : ℕ) (out : List ℕ) (e : Excess) : Type 0 where
  pub exact : e.threads ≤ 32 → (t : Placed) {m : List ℕ} {k : ℕ} → ThreadAt s out m at k to t → (i j : ℕ) (a : LocatedOffer) (before after : List LocatedOffer)
      → offers_of t i ≡ before ++ (a ∷ after) → (z : List Placed) → Left [] z (replaced_in t a.place j z) e
  pub joint : e.threads ≤ 32 → (t : Placed) {m : List ℕ} {k : ℕ} → ThreadAt s out m at k to t → (i j arity : ℕ) (c : Opened) (u : Pair)
      (before after : List Opened) → copies_of t i ≡ before ++ (c ∷ after) → (y z : List Placed)
      → Left [] (y ++ z) (replaced_in t c.place j (left_at (copy_step_with arity c u) y z ++ alone c.place (repl c.bound c.copied))) (thrice e)

-- Two of these together, unless nothing is said.
pub record Sums (d e r : Excess) : Type 0 where
  pub first : r.threads ≤ 32 → d.threads ≤ 32
  pub second : r.threads ≤ 32 → e.threads ≤ 32
  pub threads : r.threads ≤ 32 → r.threads ≡ d.threads + e.threads
  pub nodes : r.threads ≤ 32 → r.nodes ≡ d.nodes + e.nodes

-- And with whatever step of whatever state.
pub record Adds (s : List ℕ) (st : code.State) (v : step.Step) (out : List ℕ) (e : Excess) : Type 0 where
  pub exact : e.threads ≤ 32 → (S : State) (h : WithinLimits s out st S) (x : Message) (w : Move) {message m : List ℕ}
      → Moving s out st S h v x w message → Leading s st S m out
      → Left h.at.placed (rests_in x w) (outcome h.at.placed S.next x w).threads e
