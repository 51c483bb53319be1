-- A block of records that are written once more behind a state, or the limit that they meet ("Judging and its count": 32 threads, 1,024
-- nodes).
use mathlib.Core.Path.{◌≡◌, refl, sym, ◌∙◌}
use mathlib.Core.Bool.{Bool, true, false, not, ◌||◌, true≢false}
use mathlib.Core.Logic.{◌⊎◌, inr}
use mathlib.Core.List.{List, [], ◌∷◌, ◌++◌, append_assoc}
use Prim.Native.Nat.{ℕ, ◌+◌, ◌-◌, ◌*◌, ◌≤◌, ◌<◌}
use native.Mathlib.Omega.{arith}
use mir.Syntax.{w64}
use mir.Val.{Fits}
use borrow.Author.Tests.{ltb-false, le-ltb, leb-true, leb-false, not-true, not-false}
use lib.Dec.{leb, ltb}
use lib.ListN.{length, drop, length-append}
use lib.Seq.{paste}
use Rattle.meaning.specs.Judging.Limits.{bound_nodes, thread_nodes}
use Rattle.meaning.specs.Places.{Every, none, ◌also◌}
use Rattle.meaning.specs.Steps.State.{Thread, act, repl}
use Rattle.meaning.proofs.Bytes.Reading.Place.{◌⨾◌}
use Rattle.meaning.proofs.Every.{every_joined}
use Rattle.buffer.specs.Buffer.{Within}
use Rattle.buffer.specs.Word.{encode_word}
use Rattle.buffer.proofs.Laws.Buffer.{kept, copy_within, copy_stands, wider}
use Rattle.message_term.proofs.Theorems.{bound_length}
use Rattle.state_record.specs.Record.{Placed, bound_of, encode_record, encode_records, Standing}
use Rattle.state_progress.specs.TraversalResult.{Accumulated, TraversalResult, going, over_limit, unless}
use Rattle.state_progress.specs.Progress.{Extends, Stopped}
use Rattle.state_progress.specs.declared.progress.Progress.{Progress}
use Rattle.state_record.specs.declared.state.State.{State}
use Rattle.state_head.specs.Settled.{threads_of}
use Rattle.step_located.specs.Rebuilt.{push_all}
use Rattle.successor_rebuild.specs.Block.{RoomForBlock, HasRoom, Keeps}
use Rattle.successor_rebuild.specs.declared.block.Block.{Block}
use Rattle.successor_rebuild.proofs.Laws.Rebuilt.{push_all_limits}

-- The nodes of one thread and others.
pub nodes_first : (t : Thread) (ts : List Thread) → thread_nodes (t ∷ ts) ≡ bound_nodes (bound_of t) + thread_nodes ts
unfolding thread_nodes
nodes_first (act ρ p P) ts = refl
nodes_first (repl ρ P) ts = refl

-- The bytes of some records and others.
pub records_joined : (ts us : List Placed) → encode_records (ts ++ us) ≡ encode_records ts ++ encode_records us
unfolding encode_records
records_joined [] us = refl
records_joined (t ∷ ts) us = rw (records_joined ts us) (sym (append_assoc (encode_record t) (encode_records ts) (encode_records us)))

-- How many bytes they take at most: each its four first ones, 12 variables of two bytes, and two bytes for each node.
records_size : {s : List ℕ} (ts : List Placed) → Every (Standing s) ts
    → length (encode_records ts) ≤ 28 * length ts + 2 * thread_nodes (threads_of ts)
unfolding encode_records encode_word
records_size [] none = omega arith
records_size (t ∷ ts) (p also ps) =
    let bound = bound_of t.thread in
    omega (
      arith,
      records_size ts ps,
      nodes_first t.thread (threads_of ts),
      length-append (encode_record t) (encode_records ts),
      bound_length bound,
      p.process.few,
    )

-- Whether there is room.
module _ {st : State} {b : Block} {at long : ℕ} where
  no_room : (RoomForBlock st b at long → ⊥) → HasRoom st b at long false
  no_room f = record { room = λ e. absurd (true≢false (sym e)); none = λ e. f }

  pub threads_over : 32 < st.threads → HasRoom st b at long false
  threads_over h = no_room (λ p. omega (arith, p.threads))

  pub threads_full : 32 - st.threads < b.threads → st.threads ≤ 32 → HasRoom st b at long false
  threads_full h l = no_room (λ p. omega (arith, p.threads))

  pub nodes_over : 1024 < st.nodes → HasRoom st b at long false
  nodes_over h = no_room (λ p. omega (arith, p.nodes))

  pub nodes_full : 1024 - st.nodes < b.nodes → st.nodes ≤ 1024 → HasRoom st b at long false
  nodes_full h l = no_room (λ p. omega (arith, p.nodes))

  pub not_below : st.end < b.end → HasRoom st b at long false
  not_below h = no_room (λ p. omega (arith, p.below))

  pub no_bytes : long < st.end → HasRoom st b at long false
  no_bytes h = no_room (λ p. omega (arith, p.bytes))

  pub by_bytes : st.threads ≤ 32 → b.threads ≤ 32 - st.threads → st.nodes ≤ 1024 → b.nodes ≤ 1024 - st.nodes → b.end ≤ st.end
      → st.end ≤ long → HasRoom st b at long (leb (b.end - at) (long - st.end))
  by_bytes t u n v e l = record {
    room = λ h. record {
      threads = omega arith;
      nodes = omega arith;
      below = e;
      bytes = omega (arith, leb-true (b.end - at) (long - st.end) h);
    };
    none = λ h p. omega (arith, p.bytes, leb-false (b.end - at) (long - st.end) h);
  }

pub ruleset fittings = (threads_over, threads_full, nodes_over, nodes_full, not_below, no_bytes, by_bytes)

-- What the copy asks for.
module _ {st : State} {b : Block} {at long : ℕ} {q : Bool} (f : HasRoom st b at long q) (e : not q ≡ false) where
  there : RoomForBlock st b at long
  there = f.room (not-false q e)

  pub copy_from : at ≤ b.end → at + (b.end - at) ≤ long
  copy_from h = omega (arith, there.below, there.bytes)

  pub copy_to : st.end + (b.end - at) ≤ long
  copy_to = there.bytes

  pub copy_apart : at ≤ b.end → (st.end ≤ at) ⊎ (at + (b.end - at) ≤ st.end)
  copy_apart h = inr (omega (arith, there.below))

  pub end_fits : Fits w64 long → Fits w64 (st.end + (b.end - at))
  end_fits h = record { fits = omega (arith, there.bytes, h.fits) }

  pub threads_fit : Fits w64 (st.threads + b.threads)
  threads_fit = record { fits = omega (arith, there.threads) }

  pub nodes_fit : Fits w64 (st.nodes + b.nodes)
  nodes_fit = record { fits = omega (arith, there.nodes) }

pub ruleset block_asks = (copy_from, copy_to, copy_apart, end_fits, threads_fit, nodes_fit)

-- A limit is met, or the state has these threads too.
module _ (ts : List Placed) (g : Accumulated) (few : length g.threads ≤ 32) (light : g.nodes ≤ 1024) where
  over_all : (length g.threads + length ts ≤ 32 → g.nodes + thread_nodes (threads_of ts) ≤ 1024 → ⊥) → push_all ts g ≡ over_limit
  over_all f =
      push_all_limits ts g few light ∙ by_tests (ltb 32 (length g.threads + length ts)) (ltb 1024 (g.nodes + thread_nodes (threads_of ts))) _
      (λ a b. f (ltb-false 32 (length g.threads + length ts) a) (ltb-false 1024 (g.nodes + thread_nodes (threads_of ts)) b))
    where
      by_tests : (a b : Bool) (c : TraversalResult) → (a ≡ false → b ≡ false → ⊥) → unless (a || b) c ≡ over_limit
      by_tests true b c h = refl
      by_tests false true c h = refl
      by_tests false false c h = absurd (h refl refl)

  room_for_all : length g.threads + length ts ≤ 32 → g.nodes + thread_nodes (threads_of ts) ≤ 1024 → push_all ts g
      ≡ going (record { names = g.names; nodes = g.nodes + thread_nodes (threads_of ts); threads = g.threads ++ ts })
  room_for_all h l =
      push_all_limits ts g few light
      ∙ rw (le-ltb 32 (length g.threads + length ts) h, le-ltb 1024 (g.nodes + thread_nodes (threads_of ts)) l)

-- What the copy writes.
module _ {out : List ℕ} {at : ℕ} {b : Block} {st : State} {q : Bool} (f : HasRoom st b at (length out) q) (e : not q ≡ false) (o : at ≤ b.end)
    {after : List ℕ} (x : after ≡ paste out st.end (drop at out) (b.end - at)) where
  block_within : Within st.end (st.end + (b.end - at)) out after
  block_within = copy_within out st.end at (b.end - at) x (there f e).bytes (copy_from f e o)

  pub keep_within : Within st.end (length out) out after
  keep_within = wider block_within (omega arith) (there f e).bytes

-- The block with a state behind it.
module _ {out : List ℕ} {at : ℕ} {b : Block} {now : Progress} {q : Bool} (f : HasRoom now.state b at (length out) q) where
  pub keep_none : {r : Progress} → not q ≡ true → Stopped now r → Keeps out at b now r out
  keep_none e o = record {
    light = λ on. absurd (true≢false (sym on ∙ o.over.off));
    exact = λ s ts g h l p d.
        let size = records_size ts p in
        rw (over_all ts g d.few d.light (λ t n. f.none (not-true q e) (record {
          threads = omega (arith, d.threads, h.threads);
          nodes = omega (arith, d.nodes, h.nodes);
          below = l;
          bytes = omega (arith, d.size, d.room, h.stands.size, size);
        }))) o.over;
  }

  module _ (e : not q ≡ false) (o : at ≤ b.end) {after : List ℕ} (x : after ≡ paste out now.state.end (drop at out) (b.end - at)) where
    pub keep_all : Keeps out at b now (record {
      going = true;
      names = now.names;
      mark = 0;
      sent = 0;
      state = record {
        aliases = now.state.aliases;
        start = now.state.start;
        end = now.state.end + (b.end - at);
        threads = now.state.threads + b.threads;
        nodes = now.state.nodes + b.nodes;
        names = now.state.names;
      };
    }) after
    keep_all = record {
      light = λ on. omega (arith, (there f e).nodes);
      exact = λ s ts g h l p d.
          let room = there f e in
          let longer = length-append g.threads ts in
          let size = records_size ts p in
          let ends : b.end ≡ at + (b.end - at) = omega (arith, h.stands.size) in
          let within = block_within f e o x in
          let copied = copy_stands out now.state.end at (b.end - at) x room.bytes (copy_from f e o) (rw ends at h.stands) in
          let few : length g.threads + length ts ≤ 32 = omega (arith, d.threads, h.threads, room.threads) in
          let light : g.nodes + thread_nodes (threads_of ts) ≤ 1024 = omega (arith, d.nodes, h.nodes, room.nodes) in
          rw (room_for_all ts g d.few d.light few light) (record {
            on = refl;
            names = d.names;
            threads = omega (arith, d.threads, h.threads, longer);
            nodes = omega (arith, d.nodes, h.nodes);
            records = rw (records_joined g.threads ts) (kept {low = now.state.end} d.records (omega arith) within.below ⨾ copied);
            size = omega (arith, d.size, size, longer, h.stands.size);
            few = omega (arith, few, longer);
            light = light;
            room = omega (arith, d.room, within.long);
            standing = every_joined d.standing p;
          });
    }

pub ruleset keepings = (keep_none, keep_all)

-- The state begins where it did, and ends no earlier.
pub block_extends : {now : Progress} {names end threads nodes name : ℕ} (size : ℕ) → end ≡ now.state.end + size → Extends now (record {
  going = true;
  names = names;
  mark = 0;
  sent = 0;
  state = record {
    aliases = now.state.aliases;
    start = now.state.start;
    end = end;
    threads = threads;
    nodes = nodes;
    names = name;
  };
})
block_extends size e = record { aliases = refl; start = refl; end = omega arith }
