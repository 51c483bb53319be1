-- There is room for what follows the threads that act, so the state is within its limits; without its threads it is formed ("Judging and its
-- count").
use Rattle.std.specs.Prelude.{Option, Some, None}
use mathlib.Core.Path.{◌≡◌, refl, sym, ap, ◌∙◌}
use mathlib.Core.Bool.{Bool, true, false, not, true≢false}
use mathlib.Core.List.{List, [], ◌++◌}
use Prim.Native.Nat.{ℕ, ◌+◌, ◌-◌, ◌≤◌}
use native.Mathlib.Omega.{arith}
use borrow.Author.Tests.{le-ltb}
use lib.ListN.{length}
use Rattle.meaning.specs.Messages.Term.{Message, nodes}
use Rattle.meaning.specs.Places.{none}
use Rattle.meaning.specs.Steps.State.{Bound, State}
use Rattle.meaning.specs.Judging.Limits.{bound_nodes, thread_nodes}
use Rattle.meaning.proofs.Every.{every_split}
use Rattle.buffer.specs.Buffer.{Within}
use Rattle.message_bytes.proofs.Theorems.{run_length}
use Rattle.state_progress.specs.TraversalResult.{Accumulated, TraversalResult, going, over_limit, found}
use Rattle.state_progress.specs.Represented.{Represents, RepresentsResult}
use Rattle.state_record.specs.declared.state.State as code
use Rattle.state_progress.specs.declared.progress.Progress.{Progress}
use Rattle.state_head.specs.Settled.{threads_of}
use Rattle.state_start.specs.Form.{state_of, Finishes}
use Rattle.state_layout.specs.Layout.{StateAt, over_arrival}
use Rattle.step_located.specs.Rebuilt.{nodes_of}
use Rattle.step_located.proofs.Laws.Copies.{split_at}
use Rattle.step_located.proofs.Laws.Growth.{more_nodes}
use Rattle.step_transition.specs.Moves.{Move}
use Rattle.step_transition.specs.Outcome.{outcome, arrival_of}
use Rattle.step_transition.specs.Step.{step_of}
use Rattle.step_transition.specs.WithinLimits.{WithinLimits}
use Rattle.step_transition.specs.Moving.{carried, Leading, Moving}
use Rattle.step_label.specs.declared.step.Step as step
use Rattle.step_transition.proofs.Laws.Limits.{limits_judged, opens_on}
use Rattle.successor_continuation.proofs.Laws.RestsMoves.{moves_stood}
use Rattle.successor_frame.specs.Aliases.{appended, Begun, Carries}
use Rattle.successor_rebuild.specs.Tasks.{sends}
use Rattle.successor_threadless.specs.Threadless.{threadless_of, settled_rests, Settles, Bounds, Fits, FormsThreadless}
use Rattle.successor_threadless.specs.Excess.{Adds}
use Rattle.successor_threadless.specs.declared.excess.Excess.{Excess}
use Rattle.successor_rebuild.proofs.Laws.Formed.{every_move, aliases_after, within_kept}
use Rattle.successor_threadless.proofs.Laws.LightMove.{LightIn, light_move}

-- Numbers within a limit, or not known to be.
module _ {limit a b c d : ℕ} where
  pub bounds_not : Bounds limit a b c d false
  bounds_not = record { exact = λ f. absurd (true≢false (sym f)) }

  pub bounds_so : {r : Bool} → a ≤ limit → b ≤ limit - a → c ≤ limit - a - b → (r ≡ true → d ≤ limit - a - b - c) → Bounds limit a b c d r
  bounds_so l k j i = record { exact = λ f. omega (arith, i f) }

pub ruleset bounds = (bounds_not, bounds_so)

-- Room, or none that is known.
module _ {st : code.State} {e : Excess} {r : Progress} {size : ℕ} where
  pub fits_not : Fits st e r size false
  fits_not = record { room = λ f. absurd (true≢false (sym f)) }

  pub fits_so : {few light : Bool} → not r.going ≡ false → r.names ≤ 128 → Bounds 32 st.threads e.threads r.state.threads 0 few
      → few ≡ true → Bounds 1024 st.nodes e.nodes r.state.nodes size light → Fits st e r size light
  fits_so on names threads so nodes = record {
    room = λ f.
        record { on = goes r.going on; threads = omega (arith, threads.exact so); nodes = nodes.exact f; names = names };
  }
    where
      goes : (b : Bool) → not b ≡ false → b ≡ true
      goes true e = refl
      goes false e = absurd (true≢false e)

pub ruleset fittings = (fits_not, fits_so)

-- A traversal that goes on shows what it has come to.
on_going : {s out : List ℕ} {r : Progress} (c : TraversalResult) → RepresentsResult s out r c → r.going ≡ true → (g : Accumulated) × (c ≡ going g) × Represents s out r g
on_going (going g) d on = (g, refl, d)
on_going over_limit d on = absurd (true≢false (sym on ∙ d.off))
on_going (found x n ms) d on = absurd (true≢false (sym on ∙ d.off))

-- A message more has its nodes more at most.
appended_nodes : (b : Bool) (ρ : Bound) (y : Message) → bound_nodes (appended b ρ y) ≤ bound_nodes ρ + nodes y
appended_nodes true ρ y = omega (arith, more_nodes ρ y)
appended_nodes false ρ y = omega arith

module _ {s out : List ℕ} {st : code.State} {v : step.Step} {message : List ℕ} (S : State) (h : WithinLimits s out st S) (x : Message) (w : Move)
    (moving : Moving s out st S h v x w message) where
  -- What follows the processes of the step, as it was settled.
  settled_light : (g : Accumulated) → settled_rests (carried x w) w ≡ going g → LightIn h.at.placed S.next x w g
  settled_light g e =
      let ps = h.at.placed in
      let opens = every_move S.next ps (opens_on ps S.next x h.judged moving.stored) v.label moving.channel
      moving.earlier moving.others w moving.listed in
      let stood = (every_split (split_at moving.earlier moving.listed) (moves_stood _ ps v.label moving.channel)).1 in
      light_move ps S.next x moving.stored w opens stood g e

  aliases_weigh : bound_nodes (S.aliases ++ (outcome h.at.placed S.next x w).alias) ≤ bound_nodes S.aliases + length message
  aliases_weigh =
      let y = carried x w in
      let all = aliases_after h.at.placed S.next st.start x S.aliases w in
      omega (
        arith,
        ap bound_nodes all,
        appended_nodes (sends (step_of st.start w).label) S.aliases y,
        run_length y,
        ap length moving.labelled.same,
      )

  within_limits : {m : List ℕ} {e : Excess} → Leading s st S m out → Adds s st v out e → e.threads ≤ 32 → (g : Accumulated)
      → settled_rests (carried x w) w ≡ going g → st.threads + e.threads + length g.threads ≤ 32
      → st.nodes + e.nodes + g.nodes + length message ≤ 1024 → g.names ≤ 128
      → over_arrival (arrival_of S (outcome h.at.placed S.next x w)) ≡ false
  within_limits leading adds small g course few light names =
      let o = outcome h.at.placed S.next x w in
      let l = settled_light g course in
      let left = adds.exact small S h x w moving leading in
      let limits = every_move S.next h.at.placed (limits_judged h.at.placed S x h.judged moving.stored) v.label
      moving.channel moving.earlier moving.others w moving.listed in
      let total = thread_nodes (threads_of o.threads) + bound_nodes (S.aliases ++ o.alias) in
      let own : nodes_of h.at.placed ≡ thread_nodes S.threads = ap thread_nodes h.at.threads in
      let threads = le-ltb 32 (length o.threads) (omega (arith, left.few, l.few, h.at.many)) in
      let nodes = le-ltb 1024 total (omega (arith, left.light, l.light, own, h.at.nodes, aliases_weigh)) in
      let next = le-ltb 128 o.next (omega (arith, l.next)) in
      limits ∙ rw (l.free, threads, nodes, next)

-- So it is formed without its threads, or left open.
module _ {s message m out after : List ℕ} {st : code.State} {v : step.Step} where
  pub forms_not : FormsThreadless s st v message m out None after
  forms_not = record { exact = λ S h x w moving leading bare e. absurd (let z : ◌≡◌ {A = ℕ} 0 1 = cc in omega arith) }

  pub forms_threadless : {mid : List ℕ} {ok q : Bool} {added : Excess} {rests b : Progress} {f : Option code.State} {high : ℕ} → Adds s st v out added
      → added.threads ≤ 32 → Settles s st v message m out rests mid → Fits st added rests (length message) ok → ok ≡ true → Within st.end high out mid
      → Carries st message q rests.names mid b after → q ≡ sends v.label → Finishes b f → FormsThreadless s st v message m out f after
  unfolding thread_nodes within_kept
  forms_threadless {q = q} {rests = rests} {b} adds small settles fits so within carries e finishes = record {
    exact = λ S h x w moving leading bare is.
        let room = fits.room so in
        let o = outcome h.at.placed S.next x w in
        let (g, course, shows) = on_going (settled_rests (carried x w) w) (settles.exact S h x w moving leading) room.on in
        let names : g.names ≡ rests.names = sym shows.names in
        let light = aliases_weigh S h x w moving in
        let free = within_limits S h x w moving leading adds small g course (omega (arith, room.threads, shows.threads)) (omega (arith, room.nodes, shows.nodes))
        (omega (arith, names, room.names)) in
        let next : rests.names ≡ o.next = sym names ∙ sym (settled_light S h x w moving g course).next in
        let there = within_kept within h in
        let all : appended q S.aliases (carried x w) ≡ S.aliases ++ o.alias =
        ap (λ c. appended c S.aliases (carried x w)) (e ∙ ap (λ u. sends u.label) moving.same)
        ∙ aliases_after h.at.placed S.next st.start x S.aliases w in
        let few : bound_nodes (S.aliases ++ o.alias) ≤ 1024 = omega (arith, light, room.nodes, h.at.nodes) in
        let begun : Begun s st.end (S.aliases ++ o.alias) rests.names b after =
        rw all at ((carries.exact s S.aliases (carried x w) there.at.aliases (omega (arith, h.at.records.size)) leading.few
        moving.labelled (omega (arith, leading.room, within.long))).1 (omega (arith, ap bound_nodes all))) in
        let d = begun.shows in
        let state : bare ≡ state_of b = of_at (sym is ∙ finishes.state d.on (omega (arith, d.names, room.names))) in
        let stands : StateAt s after (state_of b) (threadless_of (arrival_of S o)).state =
        record {
          aliases = rw begun.aliases begun.bound;
          placed = [];
          threads = refl;
          records = d.records;
          standing = none;
          many = d.threads;
          nodes = omega (arith, d.nodes);
          names = d.names ∙ next;
          size = omega (arith, d.size, d.threads, d.nodes);
        } in
        (free, rw state stands, rw state begun.aliases);
  }
    where
      of_at : {a c : code.State} → Some a ≡ Some c → a ≡ c
      of_at k = cc

pub ruleset threadless_forms = (forms_not, forms_threadless)
