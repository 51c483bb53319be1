-- A thread written into a state, or a limit that it meets ("Judging and its count": 32 threads, 1,024 nodes).
use Rattle.std.specs.Prelude.{Option, Some, None}
use mathlib.Core.Path.{◌≡◌, refl, sym, ◌∙◌}
use mathlib.Core.Bool.{Bool, true, false, ◌||◌}
use mathlib.Core.List.{List, [], ◌∷◌, ◌++◌, append_assoc, append-nil}
use Prim.Native.Nat.{ℕ, suc, ◌+◌, ◌-◌, ◌*◌, ◌≤◌, ◌<◌}
use native.Mathlib.Omega.{arith}
use borrow.Author.Tests.{ltb-false, le-ltb}
use lib.Dec.{ltb}
use lib.ListN.{length, take, length-append}
use Rattle.meaning.specs.Bytes.Standing.{Stands}
use Rattle.meaning.specs.Places.{none, ◌also◌}
use Rattle.meaning.specs.Steps.State.{Bound, Thread}
use Rattle.meaning.specs.Judging.Limits.{bound_nodes}
use Rattle.meaning.proofs.Bytes.Reading.Place.{◌⨾◌}
use Rattle.meaning.proofs.Every.{every_joined}
use Rattle.buffer.specs.Buffer.{Within}
use Rattle.buffer.proofs.Laws.Buffer.{kept, part, wider}
use Rattle.message_term.specs.Bound.{encode_bound, BoundTo}
use Rattle.message_term.proofs.Theorems.{bound_length}
use Rattle.state_record.specs.Record.{Placed, bound_of, encode_record, encode_records, Standing, NodesOf, Written}
use Rattle.state_record.specs.Room.{Grows}
use Rattle.state_progress.specs.TraversalResult.{Accumulated, TraversalResult, going, over_limit, unless, push}
use Rattle.state_progress.specs.Represented.{Represents, RepresentsResult}
use Rattle.state_progress.specs.Progress.{Extends, Stopped}
use Rattle.state_progress.specs.Written.{Pushes}
use Rattle.state_progress.specs.declared.progress.Progress.{Progress}
use Rattle.state_record.specs.declared.state.State.{State}
use Rattle.state_record.proofs.Laws.Room.{record_room}

-- A limit is met where a test says so, and the traversal goes on where none does.
module _ (place : ℕ) (t : Thread) (g : Accumulated) where
  over-one : (length g.threads < 32 → g.nodes + bound_nodes (bound_of t) ≤ 1024 → ⊥) → push place t g ≡ over_limit
  unfolding push
  over-one f =
      by_tests (ltb 32 (suc (length g.threads))) (ltb 1024 (g.nodes + bound_nodes (bound_of t))) _
      (λ a b. f (omega (arith, ltb-false 32 (suc (length g.threads)) a)) (ltb-false 1024 (g.nodes + bound_nodes (bound_of t)) b))
    where
      by_tests : (a b : Bool) (c : TraversalResult) → (a ≡ false → b ≡ false → ⊥) → unless (a || b) c ≡ over_limit
      by_tests true b c h = refl
      by_tests false true c h = refl
      by_tests false false c h = absurd (h refl refl)

  room_for : length g.threads < 32 → g.nodes + bound_nodes (bound_of t) ≤ 1024 → push place t g
      ≡ going (record {
        names = g.names;
        nodes = g.nodes + bound_nodes (bound_of t);
        threads = g.threads ++ (record { place = place; thread = t } ∷ []);
      })
  unfolding push
  room_for h l =
      rw (le-ltb 32 (suc (length g.threads)) (omega arith), le-ltb 1024 (g.nodes + bound_nodes (bound_of t)) (omega arith))

-- The bytes of one record after others.
records_more : (ts : List Placed) (t : Placed) → encode_records (ts ++ (t ∷ [])) ≡ encode_records ts ++ encode_record t
unfolding encode_records
records_more [] t = append-nil (encode_record t)
records_more (u ∷ ts) t = rw (records_more ts t) (sym (append_assoc (encode_record u) (encode_records ts) (encode_record t)))

-- A thread whose messages have v nodes and take so many bytes: it is one too many, or its record stands behind the others.
module _ {s out : List ℕ} {now : Progress} {g : Accumulated} {v size : ℕ} (t : Placed) (n : v ≡ bound_nodes (bound_of t.thread))
    (l : size ≡ length (encode_bound (bound_of t.thread))) (p : Standing s t) (d : Represents s out now g) where
  few : length (bound_of t.thread) ≤ 12
  few = omega (arith, p.process.few)

  sized : size ≡ 2 * (length (bound_of t.thread) + bound_nodes (bound_of t.thread))
  sized = l ∙ bound_length (bound_of t.thread)

  -- Where there is no room, the state would be over a limit: its bytes are never what is short.
  none_more : {b : Option State} → Grows now.state v size (length out) b → b ≡ None → push t.place t.thread g ≡ over_limit
  none_more grows e =
      over-one t.place t.thread g (λ h o. grows.none e (record {
        threads = omega (arith, d.threads);
        total = omega (arith, d.nodes);
        short = omega (arith, sized, few);
        bytes = omega (arith, d.size, d.room, d.threads, d.nodes, sized, few);
      }))

  written_more : {b : Option State} {f : State} {after : List ℕ} {high : ℕ} → Grows now.state v size (length out) b → b ≡ Some f
      → Stands after now.state.end (encode_record t) (now.state.end + 4 + size) → Within now.state.end high out after
      → RepresentsResult s after (record { going = true; names = now.names; mark = 0; sent = 0; state = f }) (push t.place t.thread g)
  written_more {f = f} grows e x k =
      let room = grows.room f e in
      let longer = length-append g.threads (t ∷ []) in
      rw (grows.state f e, room_for t.place t.thread g (omega (arith, d.threads, room.threads)) (omega (arith, d.nodes, room.total))) (
      record {
        on = refl;
        names = d.names;
        threads = omega (arith, d.threads, longer);
        nodes = omega (arith, d.nodes);
        records = rw (records_more g.threads t) (kept {low = now.state.end} d.records (omega arith) k.below ⨾ x);
        size = omega (arith, d.size, sized, few, longer);
        few = omega (arith, d.threads, room.threads, longer);
        light = omega (arith, d.nodes, room.total);
        room = omega (arith, d.room, k.long);
        standing = every_joined d.standing (p also none);
      })

-- The thread that the traversal has come to.
module _ (m out : List ℕ) (end place v : ℕ) (now : Progress) (w : NodesOf (take (end - 0) m) v) where
  counted : (ρ : Bound) → BoundTo m 0 ρ end → v ≡ bound_nodes ρ
  counted ρ b = w.same ρ (part b.stands)

  long : (ρ : Bound) → BoundTo m 0 ρ end → end ≡ length (encode_bound ρ)
  long ρ b = omega (arith, b.stands.size)

  pub no_room : {b : Option State} {r : Progress} → Grows now.state v end (length out) b → b ≡ None → Stopped now r
      → Pushes m end place out now r out
  no_room grows e o = record {
    exact = λ s t g b p d.
        let u : Placed = record { place = place; thread = t } in
        rw (none_more u (counted (bound_of t) b) (long (bound_of t) b) p d grows e) o.over;
  }

  pub one_more : {b : Option State} {f : State} → Grows now.state v end (length out) b → b ≡ Some f
      → {after : List ℕ} → Written (take (end - 0) m) place now.state.end after
      → Within now.state.end (now.state.end + 4 + length (take (end - 0) m)) out after
      → Pushes m end place out now (record { going = true; names = now.names; mark = 0; sent = 0; state = f }) after
  one_more grows e {after} x k = record {
    exact = λ s t g b p d.
        let u : Placed = record { place = place; thread = t } in
        let bytes : take (end - 0) m ≡ encode_bound (bound_of t) = part b.stands in
        let size : length (encode_bound (bound_of t)) ≡ end = sym (long (bound_of t) b) in
        written_more u (counted (bound_of t) b) (long (bound_of t) b) p d grows e (rw (← size) (rw bytes at x.there)) k;
  }

pub ruleset pushes = (no_room, one_more)

-- What a call of it writes, and that the state begins where it did and ends no earlier.
module _ {st f : State} {nodes long : ℕ} (end : ℕ) {r : Option State} (w : Grows st nodes end long r) (y : r ≡ Some f) where
  pub push_within : (m : List ℕ) {out after : List ℕ} → length out ≡ long
      → Within st.end (st.end + 4 + length (take (end - 0) m)) out after → Within st.end (length out) out after
  push_within m e k = wider k (omega arith) (omega (arith, record_room end m w y))

pub pushed_extends : {now : Progress} {f : State} {nodes size long names : ℕ} {r : Option State} → Grows now.state nodes size long r → r ≡ Some f
    → Extends now (record { going = true; names = names; mark = 0; sent = 0; state = f })
pushed_extends {f = f} w y = record { aliases = rw (w.state f y); start = rw (w.state f y); end = rw (w.state f y) (omega arith) }

pub ruleset push_bounds = (push_within, pushed_extends)
