-- The index of a formula as it is built, from the entries of formulas up ("Bytes", the formula kinds).
use mathlib.Core.Path.{◌≡◌, refl, sym, ap, ◌∙◌}
use mathlib.Core.Bool.{true, ◌&&◌, and-true, and-false}
use mathlib.Core.List.{List, [], ◌∷◌, append-nil}
use Prim.Native.Nat.{ℕ, ◌+◌, ◌-◌, ◌%◌, ◌≤◌}
use native.Mathlib.Nat.{zero-add}
use native.Mathlib.Omega.{arith}
use lib.Dec.{ltb}
use lib.ListN.{length, get_or, length-append}
use lib.Seq.{paste}
use Rattle.meaning.specs.Bytes.Formula.{Label, Formula, equal, not, and, step}
use Rattle.meaning.specs.Bytes.Encoding.{encode_term, encode_formula}
use Rattle.meaning.specs.Bytes.Nesting.{formula_depth}
use Rattle.meaning.specs.Bytes.Standing.{Stands}
use Rattle.meaning.proofs.Bytes.Reading.Place.{parts as parts-of}
use Rattle.buffer.specs.Buffer.{Within}
use Rattle.buffer.proofs.Laws.Buffer.{kept, kept_above, put_stands, one_after, unchanged}
use Rattle.decode_layout.specs.declared.layout.Layout.{Layout}
use Rattle.decode_layout.specs.Layout.{fields, parts, layout_of, formula_layouts}
use Rattle.decode_layout.specs.Ends.{row, RowEnd}
use Rattle.decode_layout.proofs.Laws.Behind.{behind}
use Rattle.decode_layout.proofs.Laws.Ends.{formulas}
use Rattle.decode_layout.proofs.Laws.Table.{two_at_most}
use Rattle.index_formula.specs.declared.index.Entry.{Entry}
use Rattle.index_formula.specs.Index.{
  is_stepless,
  entry,
  entry_of,
  joined,
  row_of,
  node_of,
  entry_at,
  EntryOf,
  Noted,
  Indexed,
  Notes,
  Indexes,
  IndexedRow,
  DeepRow,
  IndexesRow,
  Builds,
}
use Rattle.index_formula.proofs.Laws.Kept.{bytes, Leaves, inside, indexed_kept}

-- The entry of a formula is the one of its node, from the entry of its parts: both have the same end, and say the same of steps.
row_end : (Fs : List Formula) (at : ℕ) → (row_of at Fs).end ≡ at + length (row encode_formula Fs)
row_end [] at = omega arith
row_end (F ∷ []) at = rw append-nil
row_end (F ∷ G ∷ Fs) at =
    omega (arith, row_end (G ∷ Fs) (at + length (encode_formula F)), length-append (encode_formula F) (row encode_formula (G ∷ Fs)))

word_end : (F : Formula) (at own : ℕ) → own ≡ at + 1 + length (row encode_term (formulas F).own)
    → (row_of own (formulas F).inner).end ≡ at + length (encode_formula F)
word_end F at own e =
    let N = formulas F in
    omega (arith, row_end N.inner own, ap length N.shape, length-append (row encode_term N.own) (row encode_formula N.inner))

node_stepless : (F : Formula) (own : ℕ) → ((row_of own (formulas F).inner).stepless && ltb (formulas F).kind 3) ≡ is_stepless F
unfolding formulas is_stepless
node_stepless (equal M N) own = refl
node_stepless (not F) own = and-true (is_stepless F)
node_stepless (and F G) own = and-true (is_stepless F && is_stepless G)
node_stepless (step (Label.output C) F) own = and-false (is_stepless F)
node_stepless (step (Label.input C M) F) own = and-false (is_stepless F)
node_stepless (step Label.silent F) own = and-false (is_stepless F)

node_entry : (F : Formula) (at : ℕ) {own : ℕ} → own ≡ at + 1 + length (row encode_term (formulas F).own)
    → node_of (formulas F).kind (row_of own (formulas F).inner) ≡ entry_of at F
node_entry F at {own} e = rw (word_end F at own e, node_stepless F own)

-- Indexed at a position that is given in another way.
moved : (f : List ℕ) (F : Formula) (at there : ℕ) → at ≡ there → Indexed f at F → Indexed f there F
moved f F at there e i = rw e at i

-- A node in the index is its own entry and those of its parts.
indexed_node : (f : List ℕ) (F : Formula) (at : ℕ) → Noted f at F
    → IndexedRow f (at + 1 + length (row encode_term (formulas F).own)) (formulas F).inner → Indexed f at F
unfolding formulas
indexed_node f (equal M N) at n i = n
indexed_node f (not F) at n i = (n, moved f F _ _ (omega arith) i.0)
indexed_node f (and F G) at n i = (n, moved f F _ _ (omega arith) i.0, moved f G _ _ (omega arith) i.1.0)
indexed_node f (step (Label.output C) F) at n i = (n, moved f F _ _ (rw append-nil) i.0)
indexed_node f (step (Label.input C M) F) at n i = (n, moved f F _ _ (rw (append-nil, length-append) (omega arith)) i.0)
indexed_node f (step Label.silent F) at n i = (n, moved f F _ _ (omega arith) i.0)

-- Its parts are less deep.
deep_parts : (F : Formula) {left : ℕ} → formula_depth F ≤ left → DeepRow (left - 1) (formulas F).inner
unfolding formulas
deep_parts (equal M N) h = tt
deep_parts (not F) h = (omega arith, tt)
deep_parts (and F G) h = (omega arith, (omega arith, tt))
deep_parts (step (Label.output C) F) h = (omega arith, tt)
deep_parts (step (Label.input C M) F) h = (omega arith, tt)
deep_parts (step Label.silent F) h = (omega arith, tt)

depth : (F : Formula) → 1 ≤ formula_depth F
depth (equal M N) = omega arith
depth (not F) = omega arith
depth (and F G) = omega arith
depth (step a F) = omega arith

-- The entries of positions that a call does not reach.
low_left : {f g : List ℕ} {low high from to : ℕ} → Within low high f g → entry_at to ≤ low → Leaves f g from to
low_left {low = low} w h = record { entry = λ q n l k e. kept {low = low} e (omega arith) w.below }

high_left : {f g : List ℕ} {low high from to : ℕ} → Within low high f g → high ≤ entry_at from → Leaves f g from to
high_left {high = high} w h = record { entry = λ q n l k e. kept_above {high = high} e (omega arith) w.above }

row_kept : {f g : List ℕ} (Fs : List Formula) (at : ℕ) → Leaves f g at (at + length (row encode_formula Fs)) → IndexedRow f at Fs → IndexedRow g at Fs
row_kept [] at k i = tt
row_kept (F ∷ Fs) at k i =
    let long = length-append (encode_formula F) (row encode_formula Fs) in (
      indexed_kept F (inside k (omega arith) (omega (arith, long))) i.0,
      row_kept Fs (at + length (encode_formula F)) (inside k (omega arith) (omega (arith, long))) i.1,
    )

-- A node, from its parts.
module _ {f : List ℕ} {at left : ℕ} where
  pub no_node_left : {r : Entry} → left ≡ 0 → Indexes f at left r f
  no_node_left e = record { exact = λ F p d h. absurd (omega (arith, depth F)) }

  pub nothing_there : {r : Entry} → 4096 ≤ at → Indexes f at left r f
  nothing_there l = record { exact = λ F p d h. absurd (omega (arith, p.size, bytes F)) }

  pub node_indexed : {b own : ℕ} {e r : Entry} {l : Layout} {f₁ f₂ : List ℕ} → b ≡ get_or f at 0 → l ≡ layout_of formula_layouts (b % 6)
      → RowEnd encode_term f (at + 1) (fields l) own → IndexesRow f own (left - 1) (parts l) e f₁ → r ≡ node_of (b % 6) e → Notes f₁ at r f₂
      → Indexes f at left r f₂
  node_indexed {b} {own} {e} {r} {l} {f₁} {f₂} k g o i x n = record { exact = one }
    where
      one : (F : Formula) {end : ℕ} → Stands f at (encode_formula F) end → formula_depth F ≤ left → end ≤ 4096
          → (r ≡ entry_of at F) × Indexed f₂ at F × Within (entry_at at) (entry_at end) f f₂
      one F {end} p d h =
          let B = behind (formulas F) k g o p in
          let few : parts l ≤ 2 = two_at_most formula_layouts tt (b % 6) g in
          let (parts_are, inner, frame) = i.exact (formulas F).inner B.many few B.stands (deep_parts F d) h in
          let long : at + length (encode_formula F) ≡ end = sym p.size in
          let is : r ≡ entry_of at F = x ∙ rw (parts_are, B.kind) (node_entry F at B.own) in
          let small : r.end ≤ 4096 = rw is (omega arith) in
          let entry : EntryOf f₂ at r = n.noted (omega (arith, bytes F)) small in
          let after : at + 1 ≤ own = omega (arith, B.own) in
          let rows : IndexedRow f₂ own (formulas F).inner = row_kept (formulas F).inner own (high_left n.own (omega arith)) inner in (
            is,
            indexed_node f₂ F at (rw is at entry) (rw B.own at rows),
            one_after frame n.own (omega arith) (omega arith) (omega arith) (omega (arith, bytes F)),
          )

pub ruleset indexing = (no_node_left, nothing_there, node_indexed)

-- Formulas in a row: none, one or two.
module _ {f : List ℕ} {at left : ℕ} where
  pub row_none : {count : ℕ} {r : Entry} → count ≡ 0 → r ≡ entry at true → IndexesRow f at left count r f
  row_none {count} {r} e z = record { exact = λ Fs m g p d h. only Fs (m ∙ e) p }
    where
      only : (Fs : List Formula) {end : ℕ} → length Fs ≡ 0 → Stands f at (row encode_formula Fs) end
          → (r ≡ row_of at Fs) × IndexedRow f at Fs × Within (entry_at at) (entry_at end) f f
      only [] m p = (z, tt, unchanged)
      only (F ∷ Fs) m p = absurd (omega arith)

  pub row_one : {count : ℕ} {r : Entry} {f₁ : List ℕ} → count ≡ 1 → Indexes f at left r f₁ → IndexesRow f at left count r f₁
  row_one {count} {r} {f₁} e i = record { exact = λ Fs m g p d h. only Fs (m ∙ e) p d h }
    where
      only : (Fs : List Formula) {end : ℕ} → length Fs ≡ 1 → Stands f at (row encode_formula Fs) end → DeepRow left Fs → end ≤ 4096
          → (r ≡ row_of at Fs) × IndexedRow f₁ at Fs × Within (entry_at at) (entry_at end) f f₁
      only [] m p d h = absurd (omega arith)
      only (F ∷ []) m p d h = let (is, own, frame) = i.exact F (rw append-nil at p) d.0 h in (is, (own, tt), frame)
      only (F ∷ G ∷ Fs) m p d h = absurd (omega arith)

  pub row_two : {count : ℕ} {e e₂ r : Entry} {f₁ f₂ : List ℕ} → (count ≡ 0 → ⊥) → (count ≡ 1 → ⊥) → Indexes f at left e f₁
      → Within 4096 12288 f f₁ → Indexes f₁ e.end left e₂ f₂ → r ≡ joined e e₂ → IndexesRow f at left count r f₂
  row_two {count} {e} {e₂} {r} {f₁} {f₂} n₀ n₁ i w j x = record { exact = λ Fs m g p d h. only Fs (m ∙ two g) p d h }
    where
      two : count ≤ 2 → count ≡ 2
      two g = omega (arith, n₀, n₁)

      only : (Fs : List Formula) {end : ℕ} → length Fs ≡ 2 → Stands f at (row encode_formula Fs) end → DeepRow left Fs → end ≤ 4096
          → (r ≡ row_of at Fs) × IndexedRow f₂ at Fs × Within (entry_at at) (entry_at end) f f₂
      only [] m p d h = absurd (omega arith)
      only (F ∷ []) m p d h = absurd (omega arith)
      only (F ∷ G ∷ []) {end} m p d h =
          let (last, y, z) = parts-of (encode_formula F) (encode_formula G ∷ []) (rw append-nil at p) in
          let (is, own, frame) = i.exact F y d.0 (omega (arith, z.size)) in
          let mid : e.end ≡ at + length (encode_formula F) = ap (λ (k : Entry). k.end) is in
          let still : Stands f₁ last (encode_formula G) end = kept {low = 4096} z h w.below in
          let there : Stands f₁ e.end (encode_formula G) end = rw (y.size ∙ sym mid) at still in
          let (is₂, own₂, frame₂) = j.exact G there d.1.0 h in
          let second : e₂ ≡ entry_of (at + length (encode_formula F)) G = rw mid at is₂ in (
            x ∙ rw (is, second),
            (
              indexed_kept F (low_left frame₂ (omega (arith, y.size, z.size))) own,
              (moved f₂ G e.end (at + length (encode_formula F)) mid own₂, tt),
            ),
            one_after frame frame₂ (omega arith) (omega (arith, y.size)) (omega (arith, z.size)) (omega arith),
          )
      only (F ∷ G ∷ H ∷ Fs) m p d h = absurd (omega arith)

pub ruleset rows = (row_none, row_one, row_two)

-- The formula put at the front, and its index.
pub built : (f : List ℕ) {formula f₁ f₂ : List ℕ} {r : Entry} → f₁ ≡ paste f 0 formula (length formula) → length f ≡ 12288
    → length formula ≤ 4096 → Indexes f₁ 0 48 r f₂ → Within 4096 12288 f₁ f₂ → Builds formula f₂
built f {formula} {f₁} {f₂} e l h i w = record {
  exact = λ F m.
      let here : Stands f₁ 0 (encode_formula F) (length formula) = rw m.encoded (rw zero-add at (put_stands f 0 formula e (omega arith))) in
      let (ends, own, frame) = i.exact F here m.nodes h in
      record { stands = kept {low = 4096} here h w.below; indexed = own; inside = h };
}
