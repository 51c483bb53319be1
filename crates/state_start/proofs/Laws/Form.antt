-- The start state as it is formed, or over a limit ("Steps"; "Judging and its count").
use Rattle.std.specs.Prelude.{Option, Some, None}
use mathlib.Core.Path.{◌≡◌, refl, sym, ap, ◌∙◌}
use mathlib.Core.Bool.{Bool, true, false, ◌||◌, true≢false}
use mathlib.Core.List.{List, [], ◌∷◌}
use Rattle.meaning.specs.Messages.Term.{leaf, public}
use Rattle.meaning.specs.Messages.Normal.{normal}
use Rattle.meaning.proofs.Messages.{normal_forms}
use Rattle.message_bytes.specs.Encoding.{encode_message}
use Rattle.buffer.specs.Word.{encode_word}
use Prim.Native.Nat.{ℕ, ◌+◌, ◌≤◌, ◌<◌}
use native.Mathlib.Omega.{arith}
use borrow.Author.Tests.{ltb-true, ltb-false}
use lib.Dec.{ltb}
use lib.ListN.{length}
use Rattle.meaning.specs.Bytes.Process.{Process}
use Rattle.meaning.specs.Bytes.WellFormed.{IsModel}
use Rattle.meaning.specs.Places.{none}
use Rattle.meaning.specs.Steps.State.{names, settle, start}
use Rattle.meaning.specs.Logic.Truth.{any_of}
use Rattle.meaning.specs.Judging.Limits.{bound_nodes, thread_nodes, over_settling, over_offers, over_state}
use Rattle.meaning.specs.Judging.Visits.{start_arrival}
use Rattle.meaning.proofs.Test.{neither}
use Rattle.buffer.specs.Buffer.{Within}
use Rattle.message_term.specs.Bound.{encode_bound}
use Rattle.index_process.specs.Index.{Builds, ShortModel}
use Rattle.state_progress.specs.TraversalResult.{Accumulated, going, unless}
use Rattle.state_progress.specs.Represented.{Represents, RepresentsResult}
use Rattle.state_head.specs.Traverse.{Ready, Traverses}
use Rattle.state_head.specs.Settled.{settled_at, settled_to, over_settled}
use Rattle.state_progress.specs.Progress.{Begins, Extends}
use Rattle.state_start.specs.Form.{state_of, Forms, Starts, Finishes}
use Rattle.state_layout.specs.Layout.{StateAt, over_arrival, ModelIn}
use Rattle.state_record.specs.declared.state.State.{State}
use Rattle.state_task.specs.declared.task.Task.TheVariants.{Settle}
use Rattle.state_progress.specs.declared.progress.Progress.{Progress}
use Rattle.state_head.proofs.Laws.Settling.{settled_threads, settles}
use Rattle.state_layout.proofs.Laws.Loaded.{begins_shown, news_short}

-- A traversal that is done: within the limits, with too many names, or over another limit.
module _ {now : Progress} where
  pub finish_at : now.going ≡ true → now.names ≤ 128 → Finishes now (Some (state_of now))
  finish_at on h = record {
    over = λ off. absurd (true≢false (sym on ∙ off));
    many = λ l. absurd (omega arith);
    state = λ _ _. refl;
  }

  pub finish_many : 128 < now.names → Finishes now None
  finish_many h = record { over = λ _. refl; many = λ _. refl; state = λ _ l. absurd (omega arith) }

  pub finish_over : now.going ≡ false → Finishes now None
  finish_over off = record { over = λ _. refl; many = λ _. refl; state = λ on _. absurd (true≢false (sym on ∙ off)) }

pub ruleset finishes = (finish_at, finish_many, finish_over)

-- A model that was put into a slice with its index stands there.
pub model_in : {model s : List ℕ} (P : Process) → Builds model s → IsModel model P → ModelIn s P
model_in {model} P b w =
    let p = b.exact P w in
    record {
      next = length model;
      process = record {
        stands = p.stands;
        deep = w.nodes;
        terms = w.terms;
        scoped = w.scoped;
        few = omega (arith, w.bound);
        indexed = p.indexed;
        inside = p.inside;
      };
    }

-- The tests of a state in another order.
or_five : (o t n c a : Bool) → (o || (t || n || c || a)) ≡ ((o || (t || c || a)) || n)
or_five true t n c a = refl
or_five false true n c a = refl
or_five false false true true a = refl
or_five false false true false true = refl
or_five false false true false false = refl
or_five false false false true a = refl
or_five false false false false true = refl
or_five false false false false false = refl

-- What the traversal begins with.
abbrev empty : Accumulated
empty = record { names = 0; nodes = 0; threads = [] }

over_start : (P : Process) → over_arrival (start_arrival P) ≡ (over_settled P [] empty || ltb 128 (names P [] 0))
unfolding over_state start bound_nodes
over_start P =
    let ts = settle P [] 0 in
    let many : 0 + length ts ≡ length ts = omega arith in
    let nodes : 0 + thread_nodes ts ≡ thread_nodes ts + 0 = omega arith in
    rw (many, nodes)
    (or_five (over_settling P [] 0) (ltb 32 (length ts)) (ltb 128 (names P [] 0)) (ltb 1024 (thread_nodes ts + 0))
    (any_of (λ t. over_offers t (names P [] 0)) ts))

-- The start state, from what the traversal has come to.
module _ {s argument m out after : List ℕ} {begin : ℕ} {now w : Progress} {r : Option State} (fresh : Begins begin 0 now)
    (v : Traverses s argument 0 64 m 0 Settle out now w after) (x : Extends now w) (n : Finishes w r) where
  begins : begin + 3964 ≤ length out → Represents s out now empty
  begins h = begins_shown now fresh h

  ready : (P : Process) → ModelIn s P → ShortModel s → 10750 ≤ length m → argument ≡ 16 ∷ 0 ∷ [] → Ready s argument 0 64 m 0 Settle P (leaf (public 0)) [] empty
  unfolding encode_bound encode_message encode_word normal
  ready P w short l e = record {
    next = w.next;
    process = w.process;
    shallow = omega arith;
    short = short;
    labelled = e;
    small = rw e (omega arith);
    normal = (normal_forms (leaf (public 0))).0;
    bound = record { stands = record { bytes = refl; size = omega arith }; few = omega arith; normal = none };
    room = omega (arith, w.process.few);
    fits = record { own = omega (arith, news_short P, w.process.stands.size, w.process.inside); others = none };
    meant = tt;
  }

  begun : w.state.aliases ≡ begin
  begun = x.aliases ∙ ap (λ (z : State). z.aliases) fresh.state

  -- The traversal went on to the end, and made few enough names.
  stands_formed : (P : Process) → Represents s after w (settled_to P 0 [] empty) → StateAt s after (state_of w) (start P)
  unfolding start encode_bound bound_nodes
  stands_formed P d =
      let first : w.state.aliases ≡ w.state.start = begun ∙ sym (x.start ∙ ap (λ (z : State). z.start) fresh.state) in
      record {
        aliases = record {
          stands = rw first (record { bytes = refl; size = omega arith });
          few = omega arith;
          normal = none;
        };
        placed = settled_at P 0 [] 0;
        threads = settled_threads P 0 [] 0;
        records = d.records;
        standing = d.standing;
        many = d.threads;
        nodes = omega (arith, d.nodes);
        names = d.names;
        size = omega (arith, d.size, d.threads, d.nodes);
      }

  -- The limits in turn.
  by_names : (P : Process) (c : Bool) → over_settled P [] empty ≡ false → ltb 128 (names P [] 0) ≡ c
      → Represents s after w (settled_to P 0 [] empty) → Forms s begin (start_arrival P) r after
  by_names P true e l d = record {
    none = λ _. n.many (rw d.names (ltb-true 128 (names P [] 0) l));
    some = λ q. absurd (true≢false (sym l ∙ (neither (over_settled P [] empty) (ltb 128 (names P [] 0)) (sym (over_start P) ∙ q)).1));
  }
  by_names P false e l d = record {
    none = λ q. absurd (true≢false (sym q ∙ over_start P ∙ rw (e, l)));
    some = λ _. (state_of w, n.state d.on (rw d.names (ltb-false 128 (names P [] 0) l)), stands_formed P d, begun);
  }

  by_limits : (P : Process) (b : Bool) → over_settled P [] empty ≡ b → RepresentsResult s after w (unless b (going (settled_to P 0 [] empty)))
      → Forms s begin (start_arrival P) r after
  by_limits P true e off = record {
    none = λ _. n.over off.off;
    some = λ q. absurd (true≢false (sym e ∙ (neither (over_settled P [] empty) (ltb 128 (names P [] 0)) (sym (over_start P) ∙ q)).0));
  }
  by_limits P false e d = by_names P (ltb 128 (names P [] 0)) e refl d

  pub start_formed : ShortModel s → 10750 ≤ length m → argument ≡ 16 ∷ 0 ∷ [] → begin + 3964 ≤ length out → Starts s begin r after
  start_formed short l e o = record {
    exact = λ P y. by_limits P (over_settled P [] empty) refl (
        rw (← settles P (leaf (public 0)) 0 [] empty none (omega arith) (omega arith)) (v.traverses.exact P (leaf (public 0)) [] empty (ready P y short l e) (begins o))
        );
  }

-- Nothing below the position is written.
pub start_bytes : {out after : List ℕ} {begin high : ℕ} {now : Progress} → Within now.state.end high out after
    → Begins begin 0 now → Within begin high out after
start_bytes w b = rw (ap (λ (z : State). z.end) b.state) at w
