-- The index of a formula: where each formula in it ends, and whether it has steps ("Bytes", the formula kinds).
use Rattle.std.specs.Prelude.{◌≡◌, Bool, true, false, ◌&&◌, List, [], ◌∷◌, ℕ, ◌+◌, ◌*◌, ◌≤◌, ◌<◌, ltb, length}
use Rattle.meaning.specs.Bytes.Formula.{Label, Formula, equal, not, and, step}
use Rattle.meaning.specs.Bytes.Encoding.{encode_term, encode_formula}
use Rattle.meaning.specs.Bytes.Nesting.{formula_depth}
use Rattle.meaning.specs.Bytes.Standing.{Stands}
use Rattle.meaning.specs.Bytes.WellFormed.{IsFormula}
use Rattle.buffer.specs.Buffer.{Within}
use Rattle.buffer.specs.Word.{encode_word}
use Rattle.decode_layout.specs.Ends.{row}
use Rattle.index_formula.specs.declared.index.Entry.{Entry}

-- No step formula is in it.
unfoldable pub is_stepless : Formula → Bool
is_stepless (equal M N) = true
is_stepless (not F) = is_stepless F
is_stepless (and F G) = is_stepless F && is_stepless G
is_stepless (step a F) = false

abbrev pub entry : (end : ℕ) (stepless : Bool) → Entry
entry e b = record { end = e; stepless = b }

-- The entry of a formula that stands at a position, and the one of formulas in a row.
abbrev pub entry_of : (at : ℕ) → Formula → Entry
entry_of at F = entry (at + length (encode_formula F)) (is_stepless F)

abbrev pub joined : (e f : Entry) → Entry
joined e f = entry f.end (e.stepless && f.stepless)

abbrev pub row_of : (at : ℕ) → List Formula → Entry
row_of at [] = entry at true
row_of at (F ∷ []) = entry_of at F
row_of at (F ∷ G ∷ Fs) = joined (entry_of at F) (row_of (at + length (encode_formula F)) (G ∷ Fs))

-- The entry of a node, from the one of its parts, by its kind: from 3 on it is a step formula.
abbrev pub node_of : (kind : ℕ) → Entry → Entry
node_of kind e = entry e.end (e.stepless && ltb kind 3)

-- An entry as one number: twice the end, and 1 more if there are no steps.
abbrev pub bit : Bool → ℕ
bit true = 1
bit false = 0

abbrev pub number_of : Entry → ℕ
number_of e = 2 * e.end + bit e.stepless

-- Where the entry of a position stands, and that it is the one of a formula.
abbrev pub entry_at : ℕ → ℕ
entry_at at = 4096 + 2 * at

abbrev pub EntryOf : List ℕ → (at : ℕ) → Entry → Type 0
EntryOf f at e = Stands f (entry_at at) (encode_word (number_of e)) (entry_at at + 2)

abbrev pub Noted : List ℕ → (at : ℕ) → Formula → Type 0
Noted f at F = EntryOf f at (entry_of at F)

-- So it is for every formula that is in F, which stands at the position.
abbrev pub Indexed : List ℕ → (at : ℕ) → Formula → Type 0
Indexed f at (equal M N) = Noted f at (equal M N)
Indexed f at (not F) = Noted f at (not F) × Indexed f (at + 1) F
Indexed f at (and F G) = Noted f at (and F G) × Indexed f (at + 1) F × Indexed f (at + 1 + length (encode_formula F)) G
Indexed f at (step (Label.output C) F) = Noted f at (step (Label.output C) F) × Indexed f (at + 1 + length (encode_term C)) F
Indexed f at (step (Label.input C M) F) =
    Noted f at (step (Label.input C M) F) × Indexed f (at + 1 + length (encode_term C) + length (encode_term M)) F
Indexed f at (step Label.silent F) = Noted f at (step Label.silent F) × Indexed f (at + 1) F

-- A formula stands in f from at to end, among the bytes of the whole formula, and is in the index.
pub record InFormula (f : List ℕ) (at : ℕ) (F : Formula) (end : ℕ) : Type 0 where
  pub stands : Stands f at (encode_formula F) end
  pub indexed : Indexed f at F
  pub inside : end ≤ 4096

-- The answer is the number of the entry of such a formula; so it is where the formula ends, and whether it has no steps.
pub record Says (f : List ℕ) (at r : ℕ) : Type 0 where
  pub same : (F : Formula) {end : ℕ} → InFormula f at F end → r ≡ number_of (entry_of at F)

pub record Ends (f : List ℕ) (at r : ℕ) : Type 0 where
  pub same : (F : Formula) {end : ℕ} → InFormula f at F end → r ≡ end

pub record Stepless (f : List ℕ) (at : ℕ) (r : Bool) : Type 0 where
  pub same : (F : Formula) {end : ℕ} → InFormula f at F end → r ≡ is_stepless F

-- The entry of a position is written, and nothing else.
pub record Notes (f : List ℕ) (at : ℕ) (e : Entry) (after : List ℕ) : Type 0 where
  pub own : Within (entry_at at) (entry_at at + 2) f after
  pub noted : at < 4096 → e.end ≤ 4096 → EntryOf after at e

-- Whatever formula stands there, the answer is its entry, it is in the index after the call, and entries of other positions are left.
pub record Indexes (f : List ℕ) (at left : ℕ) (r : Entry) (after : List ℕ) : Type 0 where
  pub exact : (F : Formula) {end : ℕ} → Stands f at (encode_formula F) end → formula_depth F ≤ left → end ≤ 4096
      → (r ≡ entry_of at F) × Indexed after at F × Within (entry_at at) (entry_at end) f after

-- The same of formulas in a row.
abbrev pub IndexedRow : List ℕ → (at : ℕ) → List Formula → Type 0
IndexedRow f at [] = Unit {0}
IndexedRow f at (F ∷ Fs) = Indexed f at F × IndexedRow f (at + length (encode_formula F)) Fs

abbrev pub DeepRow : (left : ℕ) → List Formula → Type 0
DeepRow left [] = Unit {0}
DeepRow left (F ∷ Fs) = (formula_depth F ≤ left) × DeepRow left Fs

pub record IndexesRow (f : List ℕ) (at left count : ℕ) (r : Entry) (after : List ℕ) : Type 0 where
  pub exact : (Fs : List Formula) {end : ℕ} → length Fs ≡ count → count ≤ 2 → Stands f at (row encode_formula Fs) end → DeepRow left Fs
      → end ≤ 4096 → (r ≡ row_of at Fs) × IndexedRow after at Fs × Within (entry_at at) (entry_at end) f after

-- Whatever formula the slice is, it stands at the front of the other one, and is in its index.
pub record Builds (formula f : List ℕ) : Type 0 where
  pub exact : (F : Formula) → IsFormula formula F → InFormula f 0 F (length formula)
