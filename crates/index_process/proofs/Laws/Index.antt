-- The index of a model as it is built, from the entries of processes up ("Bytes").
use mathlib.Core.Path.{◌≡◌, sym, ap, ◌∙◌}
use mathlib.Core.List.{List, [], ◌∷◌, append-nil}
use Prim.Native.Nat.{ℕ, ◌+◌, ◌*◌, ◌-◌, ◌%◌, ◌≤◌}
use native.Mathlib.Nat.{zero-add}
use native.Mathlib.Omega.{arith}
use lib.ListN.{length, get_or, length-append}
use lib.Seq.{paste}
use Rattle.meaning.specs.Bytes.Process.{output, input, Process, nil, new, act, if, let_in, par, repl}
use Rattle.meaning.specs.Bytes.Encoding.{encode_term, encode_process}
use Rattle.meaning.specs.Bytes.Nesting.{process_depth}
use Rattle.meaning.specs.Bytes.Standing.{Stands}
use Rattle.meaning.proofs.Bytes.Reading.Place.{parts as parts-of}
use Rattle.buffer.specs.Buffer.{Within}
use Rattle.buffer.proofs.Laws.Buffer.{kept, kept_above, put_stands, one_after, unchanged}
use Rattle.decode_layout.specs.declared.layout.Layout.{Layout}
use Rattle.decode_layout.specs.Layout.{fields, parts, layout_of, process_layouts}
use Rattle.decode_layout.specs.Ends.{row, RowEnd}
use Rattle.decode_layout.proofs.Laws.Behind.{behind}
use Rattle.decode_layout.proofs.Laws.Ends.{processes}
use Rattle.decode_layout.proofs.Laws.Table.{two_at_most}
use Rattle.index_entry.specs.declared.entry.Entry.{Entry}
use Rattle.index_entry.specs.Entry.{entry, entry_of, row_of, Small, JoinsEntries, IsNode}
use Rattle.index_process.specs.Index.{entry_at, EntryOf, Noted, Indexed, Notes, Indexes, IndexedRow, DeepRow, IndexesRow, Builds, ShortModel}
use Rattle.index_entry.proofs.Laws.Length.{bytes, one_term, two_terms}
use Rattle.index_process.proofs.Laws.Kept.{Leaves, inside, indexed_kept}
use Rattle.index_entry.proofs.Laws.Entry.{small_entry, small_row, node_entry}

-- Indexed at a position that is given in another way.
moved : (s : List ℕ) (P : Process) (at there : ℕ) → at ≡ there → Indexed s at P → Indexed s there P
moved s P at there e i = rw e at i

-- A node in the index is its own entry and those of its parts.
module _ (s : List ℕ) where
  indexed_node : (P : Process) (at : ℕ) → Noted s at P → IndexedRow s (at + 1 + length (row encode_term (processes P).own)) (processes P).inner
      → Indexed s at P
  unfolding processes
  indexed_node nil at n i = n
  indexed_node (new P) at n i = (n, moved s P _ _ (omega arith) i.0)
  indexed_node (act (output C M) P) at n i = (n, moved s P _ _ (two_terms (at + 1) C M) i.0)
  indexed_node (act (input C) P) at n i = (n, moved s P _ _ (one_term (at + 1) C) i.0)
  indexed_node (if M N P Q) at n i =
      (n, moved s P _ _ (two_terms (at + 1) M N) i.0, moved s Q _ _ (ap (λ x. x + length (encode_process P)) (two_terms (at + 1) M N)) i.1.0)
  indexed_node (let_in M P) at n i = (n, moved s P _ _ (one_term (at + 1) M) i.0)
  indexed_node (par P Q) at n i = (n, moved s P _ _ (omega arith) i.0, moved s Q _ _ (omega arith) i.1.0)
  indexed_node (repl P) at n i = (n, moved s P _ _ (omega arith) i.0)

-- Its parts are less deep.
deep_parts : (P : Process) {left : ℕ} → process_depth P ≤ left → DeepRow (left - 1) (processes P).inner
unfolding processes
deep_parts nil h = tt
deep_parts (new P) h = (omega arith, tt)
deep_parts (act (output C M) P) h = (omega arith, tt)
deep_parts (act (input C) P) h = (omega arith, tt)
deep_parts (if M N P Q) h = (omega arith, (omega arith, tt))
deep_parts (let_in M P) h = (omega arith, tt)
deep_parts (par P Q) h = (omega arith, (omega arith, tt))
deep_parts (repl P) h = (omega arith, tt)

depth : (P : Process) → 1 ≤ process_depth P
depth nil = omega arith
depth (new P) = omega arith
depth (act p P) = omega arith
depth (if M N P Q) = omega arith
depth (let_in M P) = omega arith
depth (par P Q) = omega arith
depth (repl P) = omega arith

-- The entries of positions that a call does not reach.
low_left : {s t : List ℕ} {low high from to : ℕ} → Within low high s t → entry_at to ≤ low → Leaves s t from to
low_left {low = low} w h = record { entry = λ q n l g e. kept {low = low} e (omega arith) w.below }

high_left : {s t : List ℕ} {low high from to : ℕ} → Within low high s t → high ≤ entry_at from → Leaves s t from to
high_left {high = high} w h = record { entry = λ q n l g e. kept_above {high = high} e (omega arith) w.above }

row_kept : {s t : List ℕ} (Ps : List Process) (at : ℕ) → Leaves s t at (at + length (row encode_process Ps)) → IndexedRow s at Ps → IndexedRow t at Ps
row_kept [] at k i = tt
row_kept (P ∷ Ps) at k i =
    let long = length-append (encode_process P) (row encode_process Ps) in (
      indexed_kept P (inside k (omega arith) (omega (arith, long))) i.0,
      row_kept Ps (at + length (encode_process P)) (inside k (omega arith) (omega (arith, long))) i.1,
    )

-- A node, from its parts.
module _ {s : List ℕ} {at left : ℕ} where
  pub no_node_left : {r : Entry} → left ≡ 0 → Indexes s at left r s
  no_node_left e = record { exact = λ P p d h room. absurd (omega (arith, depth P)) }

  pub nothing_there : {r : Entry} → 4096 ≤ at → Indexes s at left r s
  nothing_there l = record { exact = λ P p d h room. absurd (omega (arith, p.size, bytes P)) }

  pub node_indexed : {b own : ℕ} {f r : Entry} {l : Layout} {s₁ s₂ : List ℕ} → b ≡ get_or s at 0 → l ≡ layout_of process_layouts (b % 8)
      → RowEnd encode_term s (at + 1) (fields l) own → IndexesRow s own (left - 1) (parts l) f s₁ → IsNode (b % 8) at f r → Notes s₁ at r s₂
      → Indexes s at left r s₂
  node_indexed {b} {own} {f} {r} {l} {s₁} {s₂} k g o i x n = record { exact = one }
    where
      one : (P : Process) {end : ℕ} → Stands s at (encode_process P) end → process_depth P ≤ left → end ≤ 4096 → entry_at end ≤ length s
          → (r ≡ entry_of at P) × Indexed s₂ at P × Within (entry_at at) (entry_at end) s s₂
      one P {end} p d h room =
          let B = behind (processes P) k g o p in
          let few : parts l ≤ 2 = two_at_most process_layouts tt (b % 8) g in
          let (parts_are, inner, frame) = i.exact (processes P).inner B.many few B.stands (deep_parts P d) h room in
          let long : at + length (encode_process P) ≡ end = sym p.size in
          let little : Small f = rw parts_are (small_row (processes P).inner own (omega (arith, B.many)) (omega (arith, B.stands.size))) in
          let is : r ≡ entry_of at P = x.exact little ∙ rw (parts_are, B.kind) (node_entry P at B.own) in
          let entry : EntryOf s₂ at r = n.noted (omega (arith, bytes P)) (rw is (small_entry P at (omega arith))) (omega (arith, bytes P, frame.long)) in
          let after : at + 1 ≤ own = omega (arith, B.own) in
          let rows : IndexedRow s₂ own (processes P).inner = row_kept (processes P).inner own (high_left n.own (omega arith)) inner in (
            is,
            indexed_node s₂ P at (rw is at entry) (rw B.own at rows),
            one_after frame n.own (omega arith) (omega arith) (omega arith) (omega (arith, bytes P)),
          )

-- Two calls leave the model as it is, if each of them does.
pub model_left : {s t u : List ℕ} → Within 4096 (length s) s t → Within 4096 (length t) t u → Within 4096 (length s) s u
model_left w v = one_after w v (omega arith) (omega arith) (omega arith) (omega (arith, w.long))

pub ruleset indexing = (no_node_left, nothing_there, node_indexed)

-- Processes in a row: none, one or two.
module _ {s : List ℕ} {at left : ℕ} where
  pub row_none : {count : ℕ} {r : Entry} → count ≡ 0 → r ≡ entry at 0 0 1 0 → IndexesRow s at left count r s
  row_none {count} {r} e z = record { exact = λ Ps m f p d h room. only Ps (m ∙ e) p }
    where
      only : (Ps : List Process) {end : ℕ} → length Ps ≡ 0 → Stands s at (row encode_process Ps) end
          → (r ≡ row_of at Ps) × IndexedRow s at Ps × Within (entry_at at) (entry_at end) s s
      only [] m p = (z, tt, unchanged)
      only (P ∷ Ps) m p = absurd (omega arith)

  pub row_one : {count : ℕ} {r : Entry} {s₁ : List ℕ} → count ≡ 1 → Indexes s at left r s₁ → IndexesRow s at left count r s₁
  row_one {count} {r} {s₁} e i = record { exact = λ Ps m f p d h room. only Ps (m ∙ e) p d h room }
    where
      only : (Ps : List Process) {end : ℕ} → length Ps ≡ 1 → Stands s at (row encode_process Ps) end → DeepRow left Ps → end ≤ 4096
          → entry_at end ≤ length s → (r ≡ row_of at Ps) × IndexedRow s₁ at Ps × Within (entry_at at) (entry_at end) s s₁
      only [] m p d h room = absurd (omega arith)
      only (P ∷ []) m p d h room = let (is, own, frame) = i.exact P (rw append-nil at p) d.0 h room in (is, (own, tt), frame)
      only (P ∷ Q ∷ Ps) m p d h room = absurd (omega arith)

  pub row_two : {count : ℕ} {e f r : Entry} {s₁ s₂ : List ℕ} → (count ≡ 0 → ⊥) → (count ≡ 1 → ⊥) → Indexes s at left e s₁
      → Within 4096 (length s) s s₁ → Indexes s₁ e.end left f s₂ → JoinsEntries e f r → IndexesRow s at left count r s₂
  row_two {count} {e} {f} {r} {s₁} {s₂} f₀ f₁ i w j x = record { exact = λ Ps m g p d h room. only Ps (m ∙ two g) p d h room }
    where
      two : count ≤ 2 → count ≡ 2
      two g = omega (arith, f₀, f₁)

      only : (Ps : List Process) {end : ℕ} → length Ps ≡ 2 → Stands s at (row encode_process Ps) end → DeepRow left Ps → end ≤ 4096
          → entry_at end ≤ length s → (r ≡ row_of at Ps) × IndexedRow s₂ at Ps × Within (entry_at at) (entry_at end) s s₂
      only [] m p d h room = absurd (omega arith)
      only (P ∷ []) m p d h room = absurd (omega arith)
      only (P ∷ Q ∷ []) {end} m p d h room =
          let (last, y, z) = parts-of (encode_process P) (encode_process Q ∷ []) (rw append-nil at p) in
          let (is, own, frame) = i.exact P y d.0 (omega (arith, z.size)) (omega (arith, z.size)) in
          let mid : e.end ≡ at + length (encode_process P) = ap (λ (k : Entry). k.end) is in
          let still : Stands s₁ last (encode_process Q) end = kept {low = 4096} z h w.below in
          let there : Stands s₁ e.end (encode_process Q) end = rw (y.size ∙ sym mid) at still in
          let (is₂, own₂, frame₂) = j.exact Q there d.1.0 h (omega (arith, w.long)) in
          let second : f ≡ entry_of (at + length (encode_process P)) Q = rw mid at is₂ in
          let small : Small e = rw is (small_entry P at (omega (arith, y.size, z.size))) in
          let small₂ : Small f = rw second (small_entry Q (at + length (encode_process P)) (omega (arith, y.size, z.size))) in (
            x.exact small small₂ ∙ rw (is, second),
            (
              indexed_kept P (low_left frame₂ (omega (arith, y.size, z.size))) own,
              (moved s₂ Q e.end (at + length (encode_process P)) mid own₂, tt),
            ),
            one_after frame frame₂ (omega arith) (omega (arith, y.size)) (omega (arith, z.size)) (omega arith),
          )
      only (P ∷ Q ∷ R ∷ Ps) m p d h room = absurd (omega arith)

pub ruleset rows = (row_none, row_one, row_two)

-- The model put at the front, and its index.
pub built : (s : List ℕ) {model s₁ s₂ : List ℕ} {r : Entry} → s₁ ≡ paste s 0 model (length model) → length s₁ ≡ length s
    → 4096 + 8 * length model ≤ length s → ShortModel s → Indexes s₁ 0 64 r s₂ → Within 4096 (length s₁) s₁ s₂ → Builds model s₂
built s {model} {s₁} {s₂} e l room h i w = record {
  exact = λ P m.
      let short : length model ≤ 4096 = omega arith in
      let here : Stands s₁ 0 (encode_process P) (length model) = rw m.encoded (rw zero-add at (put_stands s 0 model e (omega arith))) in
      let (ends, own, frame) = i.exact P here m.nodes short (omega arith) in
      record { stands = kept {low = 4096} here short w.below; indexed = own; inside = short };
}
