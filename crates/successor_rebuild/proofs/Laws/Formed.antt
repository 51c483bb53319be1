-- A state that a step leads to, as it is written behind the one that it leaves ("Steps"; "Judging and its count").
use Rattle.std.specs.Prelude.{Option}
use mathlib.Core.Path.{◌≡◌, refl, sym, ap, subst, ◌∙◌}
use mathlib.Core.Bool.{Bool, true, false, ◌||◌, true≢false}
use mathlib.Core.List.{List, ◌∷◌, ◌++◌, append-nil}
use Prim.Native.Nat.{ℕ, ◌+◌, ◌≤◌, ◌<◌}
use native.Mathlib.Omega.{arith}
use borrow.Author.Tests.{ltb-true, ltb-false}
use lib.Dec.{ltb}
use lib.ListN.{length}
use Rattle.meaning.specs.Messages.Term.{Message}
use Rattle.meaning.specs.Bytes.Process.{output, input}
use Rattle.meaning.specs.Places.{Every, ◌also◌}
use Rattle.meaning.specs.Steps.State.{Bound, State}
use Rattle.meaning.specs.Judging.Limits.{bound_nodes, thread_nodes}
use Rattle.meaning.proofs.Every.{every_parts}
use Rattle.meaning.proofs.Test.{neither}
use Rattle.buffer.specs.Buffer.{Within}
use Rattle.buffer.proofs.Laws.Buffer.{kept}
use Rattle.message_term.specs.Bound.{BoundTo}
use Rattle.state_record.specs.Record.{Placed}
use Rattle.state_head.specs.Settled.{threads_of}
use Rattle.state_progress.specs.TraversalResult.{Accumulated, TraversalResult, going, unless, further}
use Rattle.state_progress.specs.Represented.{Represents, RepresentsResult}
use Rattle.state_start.specs.Form.{state_of, Forms, Finishes}
use Rattle.state_layout.specs.Layout.{StateAt, over_arrival}
use Rattle.state_progress.specs.Progress.{Extends}
use Rattle.state_record.specs.declared.state.State as code
use Rattle.state_progress.specs.declared.progress.Progress.{Progress}
use Rattle.step_transition.specs.Moves.{Move, alone, inside, between}
use Rattle.step_transition.specs.Outcome.{Outcome, outcome, arrival_of}
use Rattle.step_transition.specs.Limits.{EveryMove, rest_over, full}
use Rattle.step_transition.specs.WithinLimits.{WithinLimits}
use Rattle.step_transition.specs.Step.{step_of}
use Rattle.step_transition.specs.Behind.{moves_of}
use Rattle.successor_rebuild.specs.Tasks.{sends}
use Rattle.step_transition.specs.Moving.{carried, Leading, Moving}
use Rattle.successor_frame.specs.Aliases.{appended, Begun, Carries}
use Rattle.step_label.specs.declared.step.Step as step
use Rattle.step_label.specs.declared.step.Label.{Label}
use Rattle.step_label.specs.declared.step.Label.TheVariants.{Output, Input, Silent}
use Rattle.step_transition.proofs.Laws.Limits.{limits_judged}
use Rattle.state_head.proofs.Laws.Crowd.{crowded}
use Rattle.step_located.specs.Located.{prefixed}
use Rattle.state_progress.proofs.Laws.Written.{no_further, goes_further}

-- What holds of every step holds of this one.
pub every_move : {Q : Move → Type 0} (k : ℕ) (ps : List Placed) → EveryMove Q k ps → (l : Label) (c : Message)
    (earlier others : List Move) (w : Move) → moves_of l c k ps ≡ earlier ++ (w ∷ others) → Q w
every_move {Q} k ps (f, g) l c earlier others w e = first (every_parts earlier (rw e at (of l))).1
  where
    of : (l : Label) → Every Q (moves_of l c k ps)
    of Output = f true c
    of Input = f false c
    of Silent = g

    first : Every Q (w ∷ others) → Q w
    first (q also qs) = q

-- The new aliases.
pub aliases_after : (ps : List Placed) (k start : ℕ) (x : Message) (ρ : Bound) (w : Move)
    → appended (sends (step_of start w).label) ρ (carried x w) ≡ ρ ++ (outcome ps k x w).alias
unfolding step_of carried outcome
aliases_after ps k start x ρ (alone p a) =
    elim a.prefix as (λ q. let v = alone p (prefixed a q) in
    appended (sends (step_of start v).label) ρ (carried x v) ≡ ρ ++ (outcome ps k x v).alias) [ output C M ↦ refl | input C ↦ rw append-nil ]
aliases_after ps k start x ρ (inside p w) = rw append-nil
aliases_after ps k start x ρ (between p q w) = rw append-nil

-- What was written within the limits of threads and nodes, as a state.
abbrev pub written : State → Outcome → Accumulated
written S o = record {
  names = o.next;
  nodes = bound_nodes (S.aliases ++ o.alias) + thread_nodes (threads_of o.threads);
  threads = o.threads;
}

module _ (s after : List ℕ) (begin : ℕ) (S : State) (o : Outcome) (r : Progress)
    (aliases : r.state.aliases ≡ begin) (bound : BoundTo after begin (S.aliases ++ o.alias) r.state.start) where
  stands_so : Represents s after r (written S o) → StateAt s after (state_of r) (arrival_of S o).state
  stands_so d = record {
    aliases = rw aliases bound;
    placed = o.threads;
    threads = refl;
    records = d.records;
    standing = d.standing;
    many = d.threads;
    nodes = omega (arith, d.nodes);
    names = d.names;
    size = omega (arith, d.size, d.threads, d.nodes);
  }

  -- The traversal met a limit, or it shows the threads.
  formed : {f : Option code.State} (over : Bool) → RepresentsResult s after r (unless over (going (written S o)))
      → over_arrival (arrival_of S o) ≡ (over || ltb 128 o.next) → Finishes r f → Forms s begin (arrival_of S o) f after
  formed true d e h = record {
    none = λ t. h.over d.off;
    some = λ t. absurd (true≢false (sym e ∙ t));
  }
  formed {f} false d e h = by_names (ltb 128 o.next) refl
    where
      by_names : (b : Bool) → ltb 128 o.next ≡ b → Forms s begin (arrival_of S o) f after
      by_names true t = record {
        none = λ z. h.many (omega (arith, d.names, ltb-true 128 o.next t));
        some = λ z. absurd (true≢false (sym t ∙ sym e ∙ z));
      }
      by_names false t = record {
        none = λ z. absurd (true≢false (sym z ∙ e ∙ t));
        some = λ z. (state_of r, h.state d.on (omega (arith, d.names, ltb-false 128 o.next t)), stands_so d, aliases);
      }

-- The aliases are copied, the threads are written behind them, and the end is judged.
module _ {s message m out mid after : List ℕ} {st : code.State} {v : step.Step} {n : ℕ} {q : Bool} {b r : Progress} {f : Option code.State}
    (carries : Carries st message q n out b mid) (e : q ≡ sends v.label) (extends : Extends b r) (above : st.end ≤ b.state.end)
    (further : Within b.state.end (length mid) mid after) (finishes : Finishes r f) where
  module _ (S : State) (h : WithinLimits s out st S) (x : Message) (w : Move) (moving : Moving s out st S h v x w message) (leading : Leading s st S m out) where
    abbrev led : Outcome
    led = outcome h.at.placed S.next x w

    abbrev now_aliases : Bound
    now_aliases = S.aliases ++ led.alias

    limits : over_arrival (arrival_of S led) ≡ (rest_over x w || full S led || ltb 128 led.next)
    limits =
        every_move S.next h.at.placed (limits_judged h.at.placed S x h.judged moving.stored) v.label moving.channel
        moving.earlier moving.others w moving.listed

    begun_or_not : (1024 < bound_nodes now_aliases → b.going ≡ false)
        × (bound_nodes now_aliases ≤ 1024 → Begun s st.end now_aliases n b mid)
    begun_or_not =
        let same = ap (λ u. appended (sends u.label) S.aliases (carried x w)) moving.same
        ∙ aliases_after h.at.placed S.next st.start x S.aliases w in
        let inside = carries.exact s S.aliases (carried x w) h.at.aliases (omega (arith, h.at.records.size)) leading.few
        moving.labelled leading.room in
        rw (e, same) at inside

    -- Too many nodes in the aliases.
    too_many : r.going ≡ false → 1024 < bound_nodes now_aliases → Forms s st.end (arrival_of S led) f after
    too_many off z = record { none = λ t. finishes.over off; some = λ t. absurd (not_full (sym limits ∙ t)) }
      where
        not_full : (rest_over x w || full S led || ltb 128 led.next) ≡ false → ⊥
        not_full t =
            let (two, _) = neither (rest_over x w || full S led) _ t in
            let (_, filled) = neither (rest_over x w) _ two in
            let (_, heavy) = neither (ltb 32 (length led.threads)) _ filled in
            omega (arith, ltb-false 1024 (thread_nodes (threads_of led.threads) + bound_nodes now_aliases) heavy)

    -- Otherwise they stand, and the threads behind them.
    enough : bound_nodes now_aliases ≤ 1024 → RepresentsResult s after r (unless (rest_over x w || full S led) (going (written S led)))
        → Forms s st.end (arrival_of S led) f after
    enough z shown =
        let begun = begun_or_not.1 z in
        let bound = begun.bound in
        let bound-after : BoundTo after st.end now_aliases b.state.start =
        record {
          stands = kept {low = b.state.end} bound.stands (omega (arith, begun.shows.records.size)) further.below;
          few = bound.few;
          normal = bound.normal;
        } in
        formed s after st.end S led r (extends.aliases ∙ begun.aliases)
        (subst (λ (n : ℕ). BoundTo after st.end now_aliases n) (sym extends.start) bound-after)
        (rest_over x w || full S led) shown limits finishes

    pub formed_behind : (b.going ≡ false → r.going ≡ false)
        → (bound_nodes now_aliases ≤ 1024 → Begun s st.end now_aliases n b mid
        → RepresentsResult s after r (unless (rest_over x w || full S led) (going (written S led)))) → Forms s st.end (arrival_of S led) f after
    formed_behind stopped shown = by_nodes (ltb 1024 (bound_nodes now_aliases)) refl
      where
        by_nodes : (t : Bool) → ltb 1024 (bound_nodes now_aliases) ≡ t → Forms s st.end (arrival_of S led) f after
        by_nodes true t = let z = ltb-true 1024 _ t in too_many (stopped (begun_or_not.0 z)) z
        by_nodes false t = let z = ltb-false 1024 _ t in enough z (shown z (begun_or_not.1 z))

-- The test of what was written is that of the state.
pub full_written : (S : State) (o : Outcome) → crowded (written S o) ≡ full S o
unfolding crowded
full_written S o =
    let sum : bound_nodes (S.aliases ++ o.alias) + thread_nodes (threads_of o.threads) ≡ thread_nodes (threads_of o.threads) + bound_nodes (S.aliases ++ o.alias)
    = omega arith in
    ap (λ n. ltb 32 (length o.threads) || ltb 1024 n) sum

-- A state stays where nothing is written before its end.
unfoldable pub within_kept : {s out out₁ : List ℕ} {st : code.State} {S : State} {high : ℕ} → Within st.end high out out₁ → WithinLimits s out st S
    → WithinLimits s out₁ st S
within_kept {st = st} w h =
    let bound = h.at.aliases in
    record {
      at = record {
        aliases = record {
          stands = kept {low = st.end} bound.stands (omega (arith, h.at.records.size)) w.below;
          few = bound.few;
          normal = bound.normal;
        };
        placed = h.at.placed;
        threads = h.at.threads;
        records = kept {low = st.end} h.at.records (omega arith) w.below;
        standing = h.at.standing;
        many = h.at.many;
        nodes = h.at.nodes;
        names = h.at.names;
        size = h.at.size;
      };
      judged = h.judged;
      stored = h.stored;
      small = h.small;
      few = h.few;
      light = h.light;
      made = h.made;
    }

-- What is settled after something else, if that goes on.
pub then_shown : {s out after : List ℕ} {now r : Progress} (c : TraversalResult) (f : Accumulated → TraversalResult) → RepresentsResult s out now c
    → (now.going ≡ false → (r ≡ now) × (after ≡ out)) → ((g : Accumulated) → c ≡ going g → Represents s out now g → RepresentsResult s after r (f g))
    → RepresentsResult s after r (further c f)
then_shown {s} {out} {after} {now} {r} c f d stopped on = by_going now.going refl
  where
    by_going : (b : Bool) → now.going ≡ b → RepresentsResult s after r (further c f)
    by_going true e = goes_further s after r c f d e on
    by_going false e = let (same, bytes) = stopped e in rw (same, bytes) (no_further s out now c f d e)
