-- The numbers of an entry, read and written ("Bytes").
use mathlib.Core.Path.{◌≡◌, sym, ap, subst, ◌∙◌}
use mathlib.Core.Bool.{Bool, true, false}
use mathlib.Core.List.{List, [], ◌∷◌, ◌++◌, append-nil}
use Prim.Native.Nat.{ℕ, zero, suc, ◌+◌, ◌*◌, ◌%◌, ◌/◌, ◌≤◌, ◌<◌}
use native.Mathlib.Omega.{arith}
use mir.Syntax.{w64}
use mir.Val.{Fits}
use lib.ListN.{length, get_or, set, length-drop}
use Rattle.meaning.specs.Bytes.Process.{output, input, Process, nil, new, act, if, let_in, par, repl}
use Rattle.meaning.specs.Bytes.Standing.{Stands}
use Rattle.meaning.proofs.Bytes.Reading.Place.{parts, ◌⨾◌}
use Rattle.buffer.specs.Buffer.{Within}
use Rattle.buffer.specs.Word.{encode_word, number_at}
use Rattle.buffer.proofs.Laws.Buffer.{kept, node_within, node_stands, one_after, unchanged}
use Rattle.buffer.proofs.Laws.Word.{word_number, word_end}
use Rattle.decode_layout.specs.Ends.{row}
use Rattle.decode_layout.proofs.Laws.Standing.{first_byte}
use Rattle.index_entry.specs.declared.entry.Entry.{Entry}
use Rattle.index_entry.specs.Entry.{short, entry_of, IsLarge}
use Rattle.index_process.specs.Index.{
  one_less,
  entry_at,
  numbers_of,
  bytes_of,
  EntryOf,
  Noted,
  Indexed,
  InModel,
  Says,
  SaysByte,
  Ends,
  Lasts,
  Fixes,
  GrowsBy,
  Writes,
  Notes,
}
use Rattle.index_entry.proofs.Laws.Length.{bytes}
use Rattle.index_entry.proofs.Laws.Entry.{short_low}

-- A number of a row of numbers, two bytes each.
numbers_read : {s : List ℕ} {at end : ℕ} (xs : List ℕ) (i : ℕ) → i < length xs → Stands s at (row encode_word xs) end
    → number_at s (at + 2 * i) ≡ get_or xs i 0
numbers_read [] i h p = absurd (omega arith)
numbers_read {s} {at} (x ∷ xs) zero h p =
    let (mid, k, q) = parts (encode_word x) (row encode_word xs ∷ []) p in
    let here : at + 2 * 0 ≡ at = omega arith in
    rw here (word_number x k)
numbers_read {s} {at} (x ∷ xs) (suc i) h p =
    let (mid, k, q) = parts (encode_word x) (row encode_word xs ∷ []) p in
    let next : at + 2 * suc i ≡ mid + 2 * i = omega (arith, word_end x k) in
    rw next (numbers_read {at = mid} xs i (omega arith) q)

-- A byte of bytes that stand at a position.
byte_read : {s : List ℕ} {at end : ℕ} (xs : List ℕ) (i : ℕ) → i < length xs → Stands s at xs end → get_or s (at + i) 0 ≡ get_or xs i 0
byte_read [] i h p = absurd (omega arith)
byte_read {at} (x ∷ xs) zero h p =
    let here : at + 0 ≡ at = omega arith in
    rw here (sym (first_byte p))
byte_read {at} (x ∷ xs) (suc i) h p =
    let (mid, k, q) = parts (x ∷ []) (xs ∷ []) p in
    let next : at + suc i ≡ mid + i = omega (arith, k.size) in
    rw next (byte_read {at = mid} xs i (omega arith) q)

-- The two parts of an entry.
module _ (s : List ℕ) (at : ℕ) (e : Entry) (n : EntryOf s at e) where
  front : (mid : ℕ) × Stands s (entry_at at) (row encode_word (numbers_of e)) mid × Stands s mid (bytes_of e) (entry_at at + 8)
  front = parts (row encode_word (numbers_of e)) (bytes_of e ∷ []) n

  back : (i : ℕ) → i < 2 → get_or s (4096 + 8 * at + 6 + i) 0 ≡ get_or (bytes_of e) i 0
  unfolding encode_word
  back i h =
      let (mid, p, q) = front in
      let here : 4096 + 8 * at + 6 + i ≡ mid + i = omega (arith, p.size) in
      rw here (byte_read (bytes_of e) i h q)

-- The entry of a process in the index.
own_entry : (s : List ℕ) (at : ℕ) (P : Process) → Indexed s at P → Noted s at P
own_entry s at nil i = i
own_entry s at (new P) i = i.0
own_entry s at (act (output C M) P) i = i.0
own_entry s at (act (input C) P) i = i.0
own_entry s at (if M N P Q) i = i.0
own_entry s at (let_in M P) i = i.0
own_entry s at (par P Q) i = i.0
own_entry s at (repl P) i = i.0

-- Where no entry can stand, no process is in the index.
module _ {s : List ℕ} {at end : ℕ} (P : Process) (p : InModel s at P end) where
  not_above : 4096 ≤ at → ⊥
  not_above h = omega (arith, p.stands.size, p.inside, bytes P)

  long_enough : length s < 4096 + 8 * at + 8 → ⊥
  unfolding encode_word
  long_enough h =
      let n = own_entry s at P p.indexed in
      omega (arith, length-drop (entry_at at) s, ap length n.bytes, n.size)

module _ {s : List ℕ} {at field v : ℕ} where
  pub no_entry : 4096 ≤ at → Says s at field v
  no_entry h = record { same = λ P p. absurd (not_above P p h) }

  pub no_index : length s < 4096 + 8 * at + 8 → Says s at field v
  no_index h = record { same = λ P p. absurd (long_enough P p h) }

  pub is_said : v ≡ number_at s (4096 + 8 * at + 2 * field) → field < 3 → Says s at field v
  is_said n h =
      record { same = λ P p. n ∙ numbers_read (numbers_of (entry_of at P)) field h (front s at (entry_of at P) (own_entry s at P p.indexed)).1 }

  pub no_byte : 4096 ≤ at → SaysByte s at field v
  no_byte h = record { same = λ P p. absurd (not_above P p h) }

  pub no_bytes : length s < 4096 + 8 * at + 6 + 2 → SaysByte s at field v
  no_bytes h = record { same = λ P p. absurd (long_enough P p (omega arith)) }

  pub byte_said : {b : ℕ} → v ≡ b → b ≡ get_or s (4096 + 8 * at + 6 + field) 0 → field < 2 → SaysByte s at field v
  byte_said e n h = record { same = λ P p. e ∙ n ∙ back s at (entry_of at P) (own_entry s at P p.indexed) field h }

pub ruleset sayings = (no_entry, no_index, is_said, no_byte, no_bytes, byte_said)

-- So an entry says where a process ends, its last output and its last input, its private names, and how far it may grow.
module _ {s : List ℕ} {at v : ℕ} where
  pub too_low : Says s at 0 v → v < at → Ends s at at
  too_low n h = record { same = λ P p. absurd (omega (arith, n.same P p, p.stands.size)) }

  pub ends_there : Says s at 0 v → Ends s at v
  ends_there n = record { same = λ P p. n.same P p ∙ sym p.stands.size }

  pub last_output : {out : Bool} → out ≡ true → Says s at 1 v → Lasts s at out v
  last_output e n = record { same = λ P p. rw e (n.same P p) }

  pub last_input : {out : Bool} → out ≡ false → Says s at 2 v → Lasts s at out v
  last_input e n = record { same = λ P p. rw e (n.same P p) }

  pub fixed : SaysByte s at 0 v → Fixes s at (one_less v)
  fixed n = record { same = λ P p. ap one_less (n.same P p) }

  pub spreads : SaysByte s at 1 v → GrowsBy s at v
  spreads n = record { same = λ P p. n.same P p }

pub ruleset meanings = (too_low, ends_there, last_output, last_input, fixed, spreads)

-- An entry that is not written.
module _ {s : List ℕ} {at : ℕ} {e : Entry} where
  pub none_behind : 4096 ≤ at → Notes s at e s
  none_behind h = record { own = unchanged; noted = λ l y g. absurd (omega arith) }

  pub no_room : length s < 4096 + 8 * at + 8 → Notes s at e s
  no_room h = record { own = unchanged; noted = λ l y g. absurd (omega arith) }

  pub none_so_large : {b : Bool} → IsLarge e b → b ≡ true → Notes s at e s
  none_so_large y f = record { own = unchanged; noted = λ l k g. absurd (y.yes f k) }

-- The numbers of a small entry fit two bytes, and so do the last two of them, as one number.
module _ {e : Entry} {b : Bool} (y : IsLarge e b) (t : b ≡ false) where
  pub end_fits : e.end < 65536
  end_fits = omega (arith, (y.no t).end)

  pub output_fits : e.output < 65536
  output_fits = omega (arith, (y.no t).output)

  pub input_fits : e.input < 65536
  input_fits = omega (arith, (y.no t).input)

  pub spread_fits : Fits w64 (256 * e.growth)
  spread_fits = omega (arith, (y.no t).growth)

  pub sum_fits : {n : ℕ} → n < 256 → Fits w64 (n + 256 * e.growth)
  sum_fits h = omega (arith, (y.no t).growth)

  pub both_fit : {n : ℕ} → n < 256 → n + 256 * e.growth < 65536
  both_fit h = omega (arith, (y.no t).growth)

pub ruleset fitting = (end_fits, output_fits, input_fits, spread_fits, sum_fits, both_fit)

-- Two numbers that are written, and then two behind them.
pub two_written : (s : List ℕ) (at v w : ℕ) {s₁ s₂ : List ℕ} → s₁ ≡ set (set s at (v % 256)) (at + 1) (v / 256)
    → s₂ ≡ set (set s₁ (at + 2) (w % 256)) (at + 2 + 1) (w / 256) → at + 3 < length s → Writes s at v w s₂
two_written s at v w {s₁} {s₂} e f h =
    let first = node_within s at v e (omega arith) in
    let second = node_within s₁ (at + 2) w f (omega (arith, first.long)) in
    let there = node_stands s₁ (at + 2) w f (omega (arith, first.long)) in
    let still = kept {low = at + 2} (node_stands s at v e (omega arith)) (omega arith) second.below in
    let end : at + 2 + 2 ≡ at + 4 = omega arith in
    record {
      there = rw append-nil (still ⨾ rw end at there);
      frame = one_after first second (omega arith) (omega arith) (omega arith) (omega arith);
    }

-- So they are the bytes of an entry.
same_bytes : (a b c n k : ℕ) → n < 256 → row encode_word (a ∷ b ∷ []) ++ row encode_word (c ∷ (n + 256 * k) ∷ [])
    ≡ row encode_word (a ∷ b ∷ c ∷ []) ++ (n ∷ k ∷ [])
unfolding encode_word
same_bytes a b c n k h =
    let low : (n + 256 * k) % 256 ≡ n = omega arith in
    let high : (n + 256 * k) / 256 ≡ k = omega arith in
    rw (low, high)

module _ {s s₁ s₂ : List ℕ} {at v : ℕ} {e : Entry} (w : Writes s (4096 + 8 * at) e.end e.output s₁)
    (u : Writes s₁ (4096 + 8 * at + 4) e.input v s₂) (h : at < 4096) where
  pub entered : {n : ℕ} → n ≡ short e.names → v ≡ n + 256 * e.growth → Notes s at e s₂
  entered {n} x z =
      let end : entry_at at + 4 + 4 ≡ entry_at at + 8 = omega arith in
      record {
        own = one_after w.frame u.frame (omega arith) (omega arith) (omega arith) (omega arith);
        noted = λ g k room.
            let both = kept {low = entry_at at + 4} w.there (omega arith) u.frame.below ⨾ rw (end, z) at u.there in
            let few : n < 256 = omega (arith, x, short_low e.names) in
            let bytes = same_bytes e.end e.output e.input n e.growth few in
            rw (← x) (subst (λ xs. Stands s₂ (entry_at at) xs (entry_at at + 8)) bytes both);
      }

pub entry_within : {s s₁ s₂ : List ℕ} {at a b c d : ℕ} → Writes s (4096 + 8 * at) a b s₁ → Writes s₁ (4096 + 8 * at + 4) c d s₂
    → at < 4096 → 4096 + 8 * at + 8 ≤ length s → Within 4096 (length s) s s₂
entry_within w u h room = one_after w.frame u.frame (omega arith) (omega arith) (omega arith) (omega arith)

pub ruleset entries = (none_behind, no_room, none_so_large, entered, entry_within, unchanged)
