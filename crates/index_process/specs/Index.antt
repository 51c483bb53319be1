-- The index of a model: an entry for each of its processes ("Bytes").
use Rattle.std.specs.Prelude.{◌≡◌, List, [], ◌∷◌, ◌++◌, Bool, Option, Some, None, ℕ, zero, suc, ◌+◌, ◌*◌, ◌≤◌, ◌<◌, length, get_or}
use Rattle.meaning.specs.Bytes.Process.{output, input, Process, nil, new, act, if, let_in, par, repl}
use Rattle.meaning.specs.Bytes.Encoding.{encode_term, encode_process}
use Rattle.meaning.specs.Bytes.Nesting.{process_depth}
use Rattle.meaning.specs.Bytes.Standing.{Stands}
use Rattle.meaning.specs.Bytes.WellFormed.{IsModel}
use Rattle.buffer.specs.Buffer.{Within}
use Rattle.buffer.specs.Word.{encode_word}
use Rattle.decode_layout.specs.Ends.{row}
use Rattle.index_entry.specs.declared.entry.Entry.{Entry}
use Rattle.index_entry.specs.Entry.{last_of, fixed_names, growth, short, entry_of, row_of, Small}

-- One less than a number that is not 0.
abbrev pub one_less : ℕ → Option ℕ
one_less zero = None
one_less (suc n) = Some n

-- A model with its index beside it takes at most 36,864 bytes.
abbrev pub ShortModel : List ℕ → Type 0
ShortModel s = length s ≤ 36864

-- Where the entry of a position stands.
abbrev pub entry_at : ℕ → ℕ
entry_at at = 4096 + 8 * at

-- The numbers of an entry that have two bytes each, and those that have one, which stand behind them.
abbrev pub numbers_of : Entry → List ℕ
numbers_of e = e.end ∷ e.output ∷ e.input ∷ []

abbrev pub bytes_of : Entry → List ℕ
bytes_of e = short e.names ∷ e.growth ∷ []

abbrev pub EntryOf : List ℕ → (at : ℕ) → Entry → Type 0
EntryOf s at e = Stands s (entry_at at) (row encode_word (numbers_of e) ++ bytes_of e) (entry_at at + 8)

-- The entry of a position is the one of a process.
abbrev pub Noted : List ℕ → (at : ℕ) → Process → Type 0
Noted s at P = EntryOf s at (entry_of at P)

-- So it is for every process that is in P, which stands at the position.
abbrev pub Indexed : List ℕ → (at : ℕ) → Process → Type 0
Indexed s at nil = Noted s at nil
Indexed s at (new P) = Noted s at (new P) × Indexed s (at + 1) P
Indexed s at (act (output C M) P) =
    Noted s at (act (output C M) P) × Indexed s (at + 1 + length (encode_term C) + length (encode_term M)) P
Indexed s at (act (input C) P) = Noted s at (act (input C) P) × Indexed s (at + 1 + length (encode_term C)) P
Indexed s at (if M N P Q) =
    Noted s at (if M N P Q) × Indexed s (at + 1 + length (encode_term M) + length (encode_term N)) P
    × Indexed s (at + 1 + length (encode_term M) + length (encode_term N) + length (encode_process P)) Q
Indexed s at (let_in M P) = Noted s at (let_in M P) × Indexed s (at + 1 + length (encode_term M)) P
Indexed s at (par P Q) = Noted s at (par P Q) × Indexed s (at + 1) P × Indexed s (at + 1 + length (encode_process P)) Q
Indexed s at (repl P) = Noted s at (repl P) × Indexed s (at + 1) P

-- A process stands in s from at to end, among the bytes of the model, and is in the index.
pub record InModel (s : List ℕ) (at : ℕ) (P : Process) (end : ℕ) : Type 0 where
  pub stands : Stands s at (encode_process P) end
  pub indexed : Indexed s at P
  pub inside : end ≤ 4096

-- The answer is a number of the entry of such a process: one of two bytes, or one of one byte.
pub record Says (s : List ℕ) (at field r : ℕ) : Type 0 where
  pub same : (P : Process) {end : ℕ} → InModel s at P end → r ≡ get_or (numbers_of (entry_of at P)) field 0

pub record SaysByte (s : List ℕ) (at field r : ℕ) : Type 0 where
  pub same : (P : Process) {end : ℕ} → InModel s at P end → r ≡ get_or (bytes_of (entry_of at P)) field 0

-- So it is where the process ends, the position after its last output or input, its private names, and how far it may grow.
pub record Ends (s : List ℕ) (at r : ℕ) : Type 0 where
  pub same : (P : Process) {end : ℕ} → InModel s at P end → r ≡ end

pub record Lasts (s : List ℕ) (at : ℕ) (out : Bool) (r : ℕ) : Type 0 where
  pub same : (P : Process) {end : ℕ} → InModel s at P end → r ≡ last_of out at P

pub record Fixes (s : List ℕ) (at : ℕ) (r : Option ℕ) : Type 0 where
  pub same : (P : Process) {end : ℕ} → InModel s at P end → r ≡ one_less (short (fixed_names P))

pub record GrowsBy (s : List ℕ) (at r : ℕ) : Type 0 where
  pub same : (P : Process) {end : ℕ} → InModel s at P end → r ≡ growth P

-- Two numbers are written, and nothing else.
pub record Writes (s : List ℕ) (at v w : ℕ) (after : List ℕ) : Type 0 where
  pub there : Stands after at (row encode_word (v ∷ w ∷ [])) (at + 4)
  pub frame : Within at (at + 4) s after

-- The entry of a position is written, if there is room for it, and nothing else.
pub record Notes (s : List ℕ) (at : ℕ) (e : Entry) (after : List ℕ) : Type 0 where
  pub own : Within (entry_at at) (entry_at at + 8) s after
  pub noted : at < 4096 → Small e → entry_at at + 8 ≤ length s → EntryOf after at e

-- Whatever process stands there that the index has room for, the answer is its entry, it is in the index after the call, and entries of other positions are left.
pub record Indexes (s : List ℕ) (at left : ℕ) (r : Entry) (after : List ℕ) : Type 0 where
  pub exact : (P : Process) {end : ℕ} → Stands s at (encode_process P) end → process_depth P ≤ left → end ≤ 4096 → entry_at end ≤ length s
      → (r ≡ entry_of at P) × Indexed after at P × Within (entry_at at) (entry_at end) s after

-- The same of processes in a row.
abbrev pub IndexedRow : List ℕ → (at : ℕ) → List Process → Type 0
IndexedRow s at [] = Unit {0}
IndexedRow s at (P ∷ Ps) = Indexed s at P × IndexedRow s (at + length (encode_process P)) Ps

abbrev pub DeepRow : (left : ℕ) → List Process → Type 0
DeepRow left [] = Unit {0}
DeepRow left (P ∷ Ps) = (process_depth P ≤ left) × DeepRow left Ps

pub record IndexesRow (s : List ℕ) (at left count : ℕ) (r : Entry) (after : List ℕ) : Type 0 where
  pub exact : (Ps : List Process) {end : ℕ} → length Ps ≡ count → count ≤ 2 → Stands s at (row encode_process Ps) end → DeepRow left Ps
      → end ≤ 4096 → entry_at end ≤ length s → (r ≡ row_of at Ps) × IndexedRow after at Ps × Within (entry_at at) (entry_at end) s after

-- Whatever model the slice is, it stands at the front of the other one, and is in its index.
pub record Builds (model s : List ℕ) : Type 0 where
  pub exact : (P : Process) → IsModel model P → InModel s 0 P (length model)
