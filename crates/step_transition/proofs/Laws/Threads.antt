-- The threads of a state one by one ("Steps").
use mathlib.Core.Path.{◌≡◌, ap, subst}
use mathlib.Core.List.{List, [], ◌∷◌, ◌++◌}
use Prim.Native.Nat.{ℕ, ◌+◌, ◌≤◌}
use native.Mathlib.Omega.{arith}
use lib.ListN.{length, drop, length-append, length-drop}
use Rattle.meaning.specs.Bytes.Standing.{Stands}
use Rattle.meaning.specs.Places.{Every, ◌also◌}
use Rattle.meaning.proofs.Bytes.Reading.Place.{parts}
use Rattle.buffer.specs.Word.{number_at}
use Rattle.buffer.specs.Buffer.{Within}
use Rattle.buffer.proofs.Laws.Buffer.{kept}
use Rattle.state_record.specs.Record.{Placed, process_of, encode_record, encode_records, Standing}
use Rattle.state_record.proofs.Laws.Stored.{record_parts}
use Rattle.step_located.proofs.Laws.Located.{size, some_bytes}
use Rattle.step_transition.specs.Threads.{Judged, Threads}
use Rattle.step_transition.specs.CopyOffers.{ThreadAt}
use Rattle.state_layout.specs.Loaded.{RecordAt}

-- The first thread, and the others behind it.
pub first_thread : {s out : List ℕ} {at k end : ℕ} (t : Placed) (ts : List Placed) → Threads s out at k (t ∷ ts) end
    → RecordAt s out at t (at + length (encode_record t)) × Judged k t × Threads s out (at + length (encode_record t)) k ts end
unfolding encode_records
first_thread {s} {out} {at} {k} {end} t ts h = of h.standing h.judged
  where
    of : Every (Standing s) (t ∷ ts) → Every (Judged k) (t ∷ ts)
        → RecordAt s out at t (at + length (encode_record t)) × Judged k t × Threads s out (at + length (encode_record t)) k ts end
    of (a also rest) (b also bs) =
        let (mid, p, q) = parts (encode_record t) (encode_records ts ∷ []) h.stands in
        let here : mid ≡ at + length (encode_record t) = omega (arith, p.size) in (
          record { stands = rw here at p; standing = a; light = b.light; small = b.small },
          b,
          record { stands = rw here at q; standing = rest; judged = bs },
        )

-- The threads from one on.
pub threads_from : {s out : List ℕ} {at k end : ℕ} (ls ts : List Placed) → Threads s out at k (ls ++ ts) end
    → Threads s out (at + length (encode_records ls)) k ts end
unfolding encode_records
threads_from {s} {out} {at} {k} {end} [] ts h = subst (λ (n : ℕ). Threads s out n k ts end) (omega arith) h
threads_from {s} {out} {at} {k} {end} (l ∷ ls) ts h =
    let (p, j, rest) = first_thread l (ls ++ ts) h in
    let size = length-append (encode_record l) (encode_records ls) in
    subst (λ (n : ℕ). Threads s out n k ts end) (omega (arith, size)) (threads_from {at = at + length (encode_record l)} ls ts rest)

-- A record takes at least four bytes, before the end of the state.
pub record_end : {s out : List ℕ} {at k end : ℕ} (t : Placed) (ts : List Placed) → Threads s out at k (t ∷ ts) end
    → (length (encode_record t) ≡ 4 + number_at out (at + 2)) × (at + length (encode_record t) ≤ end)
record_end t ts h =
    let (p, j, rest) = first_thread t ts h in
    let (a, b, c) = record_parts t p.stands in
    (omega (arith, c.size), omega (arith, rest.stands.size))

-- They stay where nothing is written before their end.
pub threads_kept : {s out out₁ : List ℕ} {at k end from : ℕ} (ps : List Placed) → Within from (length out) out out₁ → end ≤ from
    → Threads s out at k ps end → Threads s out₁ at k ps end
threads_kept ps w l h = record { stands = kept h.stands l w.below; standing = h.standing; judged = h.judged }

-- Where they stand none does, if there are none.
pub no_threads : {s out : List ℕ} {at k end : ℕ} → Threads s out at k [] end → at ≡ end
unfolding encode_records
no_threads h = omega (arith, h.stands.size)

-- What stands in a slice is not longer than it, and ends within it.
module _ {s xs : List ℕ} {at end : ℕ} (p : Stands s at xs end) where
  pub stands_short : length xs ≤ length s
  stands_short = omega (arith, length-drop at s, ap length p.bytes, length-append xs (drop end s))

  pub stands_ends : 1 ≤ length xs → end ≤ length s
  stands_ends some =
      omega (arith, p.size, ap length p.bytes, length-append xs (drop end s), length-drop at s, length-drop end s)

-- The process of a thread stands in the model.
pub process_inside : {s : List ℕ} (t : Placed) → Standing s t → t.place + size (process_of t.thread) ≤ 4096
process_inside t h = omega (arith, h.process.stands.size, h.process.inside)

pub process_ends : {s : List ℕ} (t : Placed) → Standing s t → t.place + size (process_of t.thread) ≤ length s
process_ends t h =
    let there = h.process.stands in
    omega (arith, there.size, stands_ends there (omega (arith, some_bytes (process_of t.thread))))

-- A thread, and room for a traversal of it, stay where nothing is written before its end.
pub thread_kept : {s out out₁ m m₁ : List ℕ} {at k to low high high₁ : ℕ} (t : Placed) → Within to high out out₁ → Within low high₁ m m₁
    → ThreadAt s out m at k to t → ThreadAt s out₁ m₁ at k to t
thread_kept t w v h =
    let r = h.recorded in
    record {
      next = h.next;
      recorded = record { stands = kept r.stands h.below w.below; standing = r.standing; light = r.light; small = r.small };
      below = h.below;
      judged = h.judged;
      short = h.short;
      wide = omega (arith, h.wide, v.long);
      room = omega (arith, h.room, w.long);
      few = h.few;
    }
