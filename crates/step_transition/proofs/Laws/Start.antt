-- A state that is over no limit, as it stands in the work bytes: the start state, and what a step leads to ("Steps"; "Judging and its
-- count").
use Prim.Native.Nat.{ℕ, ◌+◌, ◌≤◌}
use native.Mathlib.Omega.{arith}
use mathlib.Core.Path.{◌≡◌}
use mathlib.Core.Bool.{false, ◌||◌}
use mathlib.Core.List.{List, []}
use lib.Dec.{ltb}
use lib.ListN.{length}
use borrow.Author.Tests.{ltb-false}
use Rattle.meaning.specs.Places.{Every, none}
use Rattle.meaning.specs.Steps.State.{Thread, State, start}
use Rattle.meaning.specs.Steps.Invariant.{BoundStored, ThreadStored}
use Rattle.meaning.specs.Judging.Limits.{over_settling, over_offers, bound_nodes, thread_nodes, over_state}
use Rattle.meaning.proofs.Test.{neither, passes_none}
use Rattle.meaning.proofs.Every.{every_map}
use Rattle.meaning.proofs.Steps.Invariant.Settling.{settled_below}
use Rattle.state_record.specs.Record.{Placed}
use Rattle.state_head.specs.Settled.{threads_of}
use Rattle.state_layout.specs.Layout.{StateAt, over_arrival}
use Rattle.state_record.specs.declared.state.State as code
use Rattle.step_located.proofs.Laws.Everywhere.{every_and, every_mapped}
use Rattle.step_transition.specs.Outcome.{Outcome, arrival_of}
use Rattle.state_layout.specs.Loaded.{BoundSmall}
use Rattle.step_transition.specs.Threads.{Threads}
use Rattle.step_transition.specs.Limits.{Goes}
use Rattle.step_transition.specs.WithinLimits.{WithinLimits, StartWithinLimits, StepWithinLimits}
use Rattle.state_layout.proofs.Laws.Small.{ThreadSmall, settled_small}
use Rattle.step_transition.proofs.Laws.LimitsLeft.{unmapped}
use Rattle.step_transition.proofs.Laws.LimitsOutcome.{light}
use Rattle.step_transition.proofs.Laws.Limits.{judged_on}

-- What a state that is over no limit has.
record Within (S : State) : Type 0 where
  few : length S.threads ≤ 32
  made : S.next ≤ 128
  nodes : thread_nodes S.threads + bound_nodes S.aliases ≤ 1024
  free : Every (λ t. over_offers t S.next ≡ false) S.threads

within : (S : State) → over_state S ≡ false → Within S
unfolding over_state
within S e =
    let ts = S.threads in
    let n = thread_nodes ts + bound_nodes S.aliases in
    let (counts, offers) = neither (ltb 32 (length ts) || ltb 128 S.next || ltb 1024 n) _ e in
    let (both, many) = neither (ltb 32 (length ts) || ltb 128 S.next) _ counts in
    let (few, made) = neither (ltb 32 (length ts)) _ both in
    record {
      few = ltb-false 32 (length ts) few;
      made = ltb-false 128 S.next made;
      nodes = ltb-false 1024 n many;
      free = passes_none _ ts offers;
    }

-- Judging speaks of the threads alone.
of_threads : {Q : Thread → Type 0} (ps : List Placed) {ts : List Thread} → threads_of ps ≡ ts → Every Q ts → Every (λ t. Q t.thread) ps
of_threads ps e h = unmapped (λ t. t.thread) ps (rw e h)

pub within_limits : {s out : List ℕ} {st : code.State} {S : State} → StateAt s out st S → over_state S ≡ false
    → Every (ThreadStored S.next) S.threads → Every ThreadSmall S.threads → BoundStored S.next S.aliases → BoundSmall S.aliases
    → WithinLimits s out st S
within_limits {s} {out} {st} {S} a e stored small aliases aliases-small =
    let w = within S e in
    let ps = a.placed in
    record {
      at = a;
      judged =
          every_map (λ t (f, h). record { free = f; stored = h.0; light = omega (arith, h.1.0, w.nodes); small = h.1.1 })
          (every_and (of_threads ps a.threads w.free)
          (every_and (of_threads ps a.threads stored)
          (every_and (rw a.threads at (light ps)) (of_threads ps a.threads small))));
      stored = aliases;
      small = aliases-small;
      few = w.few;
      light = omega (arith, a.nodes, w.nodes);
      made = w.made;
    }

pub start_within_limits : StartWithinLimits
unfolding start
start_within_limits s out P st e a =
    let (settling, within) = neither (over_settling P [] 0) _ e in
    within_limits a within (settled_below P none).1 (settled_small P [] 0 settling none) none none

after_within : {s out after : List ℕ} {st st' : code.State} {S : State} (o : Outcome) → WithinLimits s out st S → Goes S o
    → over_arrival (arrival_of S o) ≡ false → StateAt s after st' (arrival_of S o).state → WithinLimits s after st' (arrival_of S o).state
after_within o h g e a =
    let judged = g.judged e in
    within_limits a (neither o.large _ e).1 (every_mapped _ (every_map (λ t j. j.stored) judged)) (every_mapped _ (every_map (λ t j. j.small) judged))
    (g.aliases h.stored) (g.small h.small)

pub step_within_limits : StepWithinLimits
step_within_limits s out st S x h stored small =
    let (labelled, silent) = judged_on h.at.placed S x h.judged stored small in (
      λ output c. every_map (λ v g e after st' a. after_within _ h g e a) (labelled output c),
      every_map (λ v g e after st' a. after_within _ h g e a) silent,
    )

-- The threads of such a state.
pub within_threads : {s out : List ℕ} {st : code.State} {S : State} (h : WithinLimits s out st S)
    → Threads s out st.start S.next h.at.placed st.end
within_threads h = record { stands = h.at.records; standing = h.at.standing; judged = h.judged }
