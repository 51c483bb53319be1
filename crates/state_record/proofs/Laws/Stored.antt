-- A thread loaded from its record ("Steps").
use mathlib.Core.Path.{◌≡◌, sym, ap, ◌∙◌}
use mathlib.Core.List.{List, [], ◌∷◌}
use Prim.Native.Nat.{ℕ, ◌+◌, ◌-◌, ◌≤◌, ◌<◌}
use native.Mathlib.Omega.{arith}
use lib.ListN.{length, take, drop, length-append, length-drop, length-take}
use lib.Seq.{paste}
use Rattle.meaning.specs.Bytes.Standing.{Stands}
use Rattle.meaning.proofs.Bytes.Reading.Place.{parts}
use Rattle.buffer.specs.Word.{encode_word, number_at}
use Rattle.buffer.specs.Buffer.{Within}
use Rattle.buffer.proofs.Laws.Buffer.{part, put_within, put_stands}
use Rattle.buffer.proofs.Laws.Word.{word_number, word_end}
use Rattle.message_term.specs.Bound.{encode_bound}
use Rattle.state_record.specs.Record.{Placed, bound_of, encode_record}
use Rattle.state_record.specs.Stored.{Fetched, Loads}

-- The two numbers of a record, and its messages.
pub record_parts : {out : List ℕ} {at next : ℕ} (t : Placed) → Stands out at (encode_record t) next
    → (number_at out at ≡ t.place) × (number_at out (at + 2) ≡ length (encode_bound (bound_of t.thread)))
    × Stands out (at + 4) (encode_bound (bound_of t.thread)) next
record_parts {at = at} t p =
    let bound = encode_bound (bound_of t.thread) in
    let (mid, h, (last, l, b)) = parts (encode_word t.place) (encode_word (length bound) ∷ bound ∷ []) p in
    let second : mid ≡ at + 2 = word_end t.place h in
    let third : last ≡ at + 4 = omega (arith, word_end (length bound) l) in
    (word_number t.place h, word_number (length bound) (rw second at l), rw third at b)

module _ (out : List ℕ) (at place size : ℕ) (p : place ≡ number_at out at) (z : size ≡ number_at out (at + 2)) where
  pub too_long : (m : List ℕ) → length m < size → Loads out at (record { place = place; end = 0; next = at }) m
  too_long m h = record { exact = λ t q f g l. absurd (let (a, b, c) = record_parts t q in omega arith) }

  pub cut_off : (m : List ℕ) → length out - at < 4 + size → at + 4 ≤ length out → Loads out at (record { place = place; end = 0; next = at }) m
  cut_off m h o = record {
    exact = λ t q f g l. absurd (
        let (a, b, c) = record_parts t q in
        omega (arith, c.size, length-drop (at + 4) out, ends_within c)
        );
  }
    where
      ends_within : {xs : List ℕ} {i j : ℕ} → Stands out i xs j → length xs ≤ length out - i
      ends_within {xs} {i} {j} q =
          omega (arith, length-drop i out, ap length q.bytes, length-append xs (drop j out))

  run_length : 4 + size ≤ length out - at → length (take (at + 4 + size - (at + 4)) (drop (at + 4) out)) ≡ size
  run_length l = omega (arith, length-take (at + 4 + size - (at + 4)) (drop (at + 4) out), length-drop (at + 4) out)

  pub loaded : {m₁ : List ℕ} → Fetched (take (at + 4 + size - (at + 4)) (drop (at + 4) out)) m₁ → 4 + size ≤ length out - at
      → Loads out at (record { place = place; end = size; next = at + 4 + size }) m₁
  loaded {m₁} w l = record {
    exact = λ t {next} q f g k.
        let (a, b, c) = record_parts t q in
        let ends : next ≡ at + 4 + size = omega (arith, c.size) in
        let same : take (at + 4 + size - (at + 4)) (drop (at + 4) out) ≡ encode_bound (bound_of t.thread) = rw ends at (part c) in
        let long : length (encode_bound (bound_of t.thread)) ≡ size = sym (z ∙ b) in
        (p ∙ a, sym ends, rw (same, long) at w.there);
  }

  pub loaded_within : {m m₁ : List ℕ} → Within 0 (length (take (at + 4 + size - (at + 4)) (drop (at + 4) out))) m m₁
      → 4 + size ≤ length out - at → Within 0 size m m₁
  loaded_within w l = rw (run_length l) at w

pub ruleset loads = (too_long, cut_off, loaded)

pub fetched : (b m : List ℕ) {m₁ : List ℕ} → m₁ ≡ paste m 0 b (length b) → length b ≤ length m → Fetched b m₁
fetched b m e h =
    let here : 0 + length b ≡ length b = omega arith in
    record { there = rw here at (put_stands m 0 b e (omega arith)) }

pub fetched_within : (b m : List ℕ) {m₁ : List ℕ} → m₁ ≡ paste m 0 b (length b) → length b ≤ length m → Within 0 (length b) m m₁
fetched_within b m e h = let here : 0 + length b ≡ length b = omega arith in rw here at (put_within m 0 b e (omega arith))

pub ruleset fetches = (fetched, fetched_within)
