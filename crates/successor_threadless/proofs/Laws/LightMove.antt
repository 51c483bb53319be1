-- What follows the processes that act in a step, settled by itself: it meets no limit of its own, and has the threads and the nodes of what the
-- step leaves there ("Judging and its count").
use mathlib.Core.Path.{◌≡◌, refl, sym, ap, subst, ◌∙◌}
use mathlib.Core.Bool.{Bool, false}
use mathlib.Core.List.{List, ◌++◌}
use Prim.Native.Nat.{ℕ, ◌+◌}
use native.Mathlib.Omega.{arith}
use lib.ListN.{length, length-append}
use Rattle.meaning.specs.Messages.Term.{Message}
use Rattle.meaning.specs.Bytes.Process.{Process}
use Rattle.meaning.specs.Steps.State.{Bound, ◌▸◌, names}
use Rattle.meaning.specs.Steps.Invariant.{Stored, BoundStored}
use Rattle.meaning.specs.Judging.Limits.{thread_nodes}
use Rattle.meaning.proofs.Steps.Invariant.Settling.{bound_later, worked_below, settled_below}
use Rattle.state_record.specs.Record.{Placed}
use Rattle.state_record.specs.Place.{rest_at}
use Rattle.state_progress.specs.TraversalResult.{Accumulated, TraversalResult, going, over_limit, found, further}
use Rattle.state_task.specs.declared.task.Task.TheVariants.{Settle}
use Rattle.state_head.specs.Settled.{settled_at, settled_to}
use Rattle.state_head.specs.Traversal.{go}
use Rattle.state_head.proofs.Laws.Settling.{settled_threads, settled_within}
use Rattle.state_layout.specs.Loaded.{nothing_yet}
use Rattle.step_located.specs.Located.{LocatedOffer}
use Rattle.step_located.specs.CopyStep.{Pair, message_of}
use Rattle.step_located.specs.Rebuilt.{nodes_of}
use Rattle.step_located.proofs.Laws.SpreadRoom.{nodes_joined}
use Rattle.step_transition.specs.Focus.{Focus}
use Rattle.step_transition.specs.Moves.{Move, alone, inside, between}
use Rattle.step_transition.specs.Outcome.{outcome, bound_after, sent_by, last_of, sender_rest, taker_rest}
use Rattle.step_transition.specs.Limits.{pair_over, rest_over}
use Rattle.step_transition.specs.Moving.{carried}
use Rattle.step_transition.proofs.Laws.Limits.{OpensTo}
use Rattle.step_transition.proofs.Laws.LimitsOutcome.{bound-after}
use Rattle.step_transition.proofs.Laws.LimitsReplaced.{Opens}
use Rattle.step_transition.proofs.Laws.LimitsPairs.{PairOpens}
use Rattle.successor_continuation.proofs.Laws.RestsMoves.{BindsNothing, BindsMessage, Stood}
use Rattle.successor_continuation.proofs.Laws.RestsSettled.{bound_carried}
use Rattle.successor_threadless.specs.Threadless.{rest_from, both_from, settled_rests}
use Rattle.successor_threadless.specs.Excess.{rests_in}
use Rattle.successor_threadless.proofs.Laws.Light.{settled}

-- A traversal that goes on in the end went on before.
further_going : (c : TraversalResult) (f : Accumulated → TraversalResult) (g : Accumulated) → further c f ≡ going g → (h : Accumulated) × (c ≡ going h) × (f h ≡ going g)
further_going (going h) f g e = (h, refl, e)
further_going over_limit f g e = absurd (let z : ◌≡◌ {A = ℕ} 0 1 = cc in omega arith)
further_going (found x n ms) f g e = absurd (let z : ◌≡◌ {A = ℕ} 0 1 = cc in omega arith)

-- What was settled, as so many threads and nodes more.
record Grows (g h : Accumulated) (z : List Placed) : Type 0 where
  few : length h.threads ≡ length g.threads + length z
  light : h.nodes ≡ g.nodes + nodes_of z

grows : (P : Process) (at : ℕ) (σ : Bound) (g h : Accumulated) → h ≡ settled_to P at σ g → Grows g h (settled_at P at σ g.names)
grows P at σ g h e = record {
  few = ap (λ r. length r.threads) e ∙ length-append g.threads (settled_at P at σ g.names);
  light = ap (λ r. r.nodes) e ∙ ap (λ ts. g.nodes + thread_nodes ts) (sym (settled_threads P at σ g.names));
}

-- What follows meets no limit of its own, and is what a step leaves there.
pub record Light (over : Bool) (names : ℕ) (rests : List Placed) (g : Accumulated) : Type 0 where
  pub free : over ≡ false
  pub next : names ≡ g.names
  pub few : length g.threads ≡ length rests
  pub light : g.nodes ≡ nodes_of rests

abbrev pub LightIn : List Placed → ℕ → Message → Move → Accumulated → Type 0
LightIn ps k x w g = Light (rest_over x w) (outcome ps k x w).next (rests_in x w) g

-- A sender and a taker.
abbrev LightPair : Pair → Accumulated → Type 0
LightPair w g = Light (pair_over w) (names w.taker.rest (w.taker.bound ▸ sent_by w) (last_of w)) (sender_rest w ++ taker_rest w) g

by_pair : {k : ℕ} (w : Pair) → PairOpens k w → (mid g : Accumulated)
    → go w.sender.rest Settle (sent_by w) (rest_at w.sender.place w.sender.prefix) w.sender.bound
    (nothing_yet w.taker.next) ≡ going mid
    → go w.taker.rest Settle (sent_by w) (rest_at w.taker.place w.taker.prefix) (w.taker.bound ▸ sent_by w) mid ≡ going g
    → LightPair w g
by_pair w o mid g first second =
    let P = w.sender.rest in
    let Q = w.taker.rest in
    let ρ = w.sender.bound in
    let y = sent_by w in
    let n = nothing_yet w.taker.next in
    let at = rest_at w.sender.place w.sender.prefix in
    let to = rest_at w.taker.place w.taker.prefix in
    let (free, is) = settled P y at ρ n mid o.sender (omega arith) (omega arith) first in
    let (few, light) = settled_within P y at ρ n mid first (omega arith) (omega arith) in
    let (later, threads) = settled_below P o.sender in
    let names-are : mid.names ≡ last_of w = ap (λ r. r.names) is in
    let stored : BoundStored mid.names (w.taker.bound ▸ y) =
    subst (λ (i : ℕ). BoundStored i (w.taker.bound ▸ y)) (sym names-are)
    (worked_below (bound_later later o.sender) (message_of w.sender.prefix) (bound_later later o.taker)) in
    let (free', is') = settled Q y to (w.taker.bound ▸ y) mid g stored few light second in
    let more = grows P at ρ n mid is in
    let more' = rw names-are at (grows Q to (w.taker.bound ▸ y) mid g is') in
    record {
      free = rw (free, (rw names-are at free'));
      next = sym (ap (λ r. r.names) is' ∙ ap (names Q (w.taker.bound ▸ y)) names-are);
      few = omega (arith, more.few, more'.few, length-append (sender_rest w) (taker_rest w));
      light = omega (arith, more.light, more'.light, nodes_joined (sender_rest w) (taker_rest w));
    }

pair_light : {k : ℕ} (w : Pair) → PairOpens k w → BindsNothing w.sender → BindsMessage w.taker → (g : Accumulated) → both_from (sent_by w) w ≡ going g → LightPair w g
pair_light w o sends takes g e =
    let y = sent_by w in
    let (mid, sent, taken) = further_going (rest_from y w.sender (nothing_yet w.taker.next)) (rest_from y w.taker) g e in
    by_pair w o mid g
    (subst (λ (τ : Bound). go w.sender.rest Settle y (rest_at w.sender.place w.sender.prefix) τ (nothing_yet w.taker.next) ≡ going mid)
    (sends.bound y) sent)
    (subst (λ (τ : Bound). go w.taker.rest Settle y (rest_at w.taker.place w.taker.prefix) τ mid ≡ going g) (takes.bound y) taken)

-- A step: an output or an input, or a silent one by its pair.
module _ (ps : List Placed) (k : ℕ) (x : Message) where
  light_alone : Stored k x → (p : Focus) (a : LocatedOffer) → Opens k a → (g : Accumulated) → settled_rests (carried x (alone p a)) (alone p a) ≡ going g
      → LightIn ps k x (alone p a) g
  unfolding settled_rests outcome rest_over rests_in
  light_alone stored p a o g e =
      let y = carried x (alone p a) in
      let here = rest_at a.place a.prefix in
      let n = nothing_yet a.next in
      let σ = bound_after x a in
      let course : go a.rest Settle y here σ n ≡ going g =
      subst (λ (τ : Bound). go a.rest Settle y here τ n ≡ going g) (bound_carried x p a) e in
      let (free, is) = settled a.rest y here σ n g (bound-after x a o.later stored o.stored) (omega arith) (omega arith) course in
      let more = grows a.rest here σ n g is in
      record { free = free; next = sym (ap (λ r. r.names) is); few = omega (arith, more.few); light = omega (arith, more.light) }

  pub light_move : Stored k x → (w : Move) → OpensTo k w → Stood k ps w → (g : Accumulated) → settled_rests (carried x w) w ≡ going g → LightIn ps k x w g
  unfolding settled_rests outcome rest_over rests_in carried
  light_move stored (alone p a) o stood g e = light_alone stored p a o g e
  light_move stored (inside p j) o jo g e = pair_light j.pair o jo.sends jo.takes g e
  light_move stored (between p q w) o sh g e = pair_light w o sh.sends sh.takes g e
