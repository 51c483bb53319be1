-- Finding the end of trees that stand in a row, for trees of any sort ("Bytes"): a node is its kind, fields of a lower sort,
-- and parts of its own sort.
use mathlib.Core.Path.{◌≡◌, refl, sym, ap, ◌∙◌}
use mathlib.Core.List.{List, [], ◌∷◌, ◌++◌, append_assoc, append-nil}
use Prim.Native.Nat.{ℕ, ◌+◌, ◌-◌, ◌%◌, ◌≤◌, ◌<◌}
use native.Mathlib.Nat.{mod-eq_of_lt}
use native.Mathlib.Omega.{arith}
use lib.ListN.{length, get_or, drop, length-append, length-drop}
use lib.Seq.{get_or-drop}
use Rattle.meaning.specs.Bytes.Standing.{Stands}
use Rattle.meaning.proofs.Bytes.Reading.Place.{parts as parts-of, ◌⨾◌}
use Rattle.decode_layout.specs.declared.layout.Layout.{Layout}
use Rattle.decode_layout.specs.Layout.{fields, parts, layout_of}
use Rattle.decode_layout.specs.Ends.{row, InRow, EndOf, RowEnd}

-- The bytes of one row after another are those of one row.
pub row_append : {A : Type 0} (encode : A → List ℕ) (xs ys : List A) → row encode (xs ++ ys) ≡ row encode xs ++ row encode ys
row_append encode [] ys = refl
row_append encode (x ∷ xs) ys = rw (row_append encode xs ys, append_assoc)

-- The first byte of bytes that stand at a position is the slice's byte there, so the slice goes on there.
pub first_byte : {s xs : List ℕ} {at end b : ℕ} → Stands s at (b ∷ xs) end → b ≡ get_or s at 0
first_byte {s} {at} p =
    let here : at + 0 ≡ at = omega arith in
    sym (rw (← here, ← get_or-drop at s 0 0, p.bytes))

pub goes_on : {s xs : List ℕ} {at end b : ℕ} → Stands s at (b ∷ xs) end → at < length s
goes_on {s} {xs} {at} {end} p = omega (arith, length-drop at s, ap length p.bytes)

-- The kind of a tree, its fields and its parts, as many as the kind says.
pub record Node {A B : Type 0} (field : B → List ℕ) (encode : A → List ℕ) (kinds : ℕ) (table : List Layout) (a : A)
    : Type 0 where
  pub kind : ℕ
  pub small : kind < kinds
  pub own : List B
  pub inner : List A
  pub shape : encode a ≡ kind ∷ row field own ++ row encode inner
  pub owned : length own ≡ fields (layout_of table kind)
  pub parted : length inner ≡ parts (layout_of table kind)

-- Where count trees stand at a position, the traversal has so many of them, or of their parts, left from i on.
pub record Traversed {A : Type 0} (encode : A → List ℕ) (s : List ℕ) (at count i left : ℕ) : Type 0 where
  pub same : {end : ℕ} → InRow encode s at count end → InRow encode s i left end

-- No trees take no bytes.
none : {A : Type 0} (encode : A → List ℕ) (xs : List A) {s : List ℕ} {i end : ℕ}
    → length xs ≤ 0 → Stands s i (row encode xs) end → i ≡ end
none encode [] h p = omega (arith, p.size)
none encode (x ∷ xs) h p = omega arith

module _ {A : Type 0} {encode : A → List ℕ} {s : List ℕ} {at : ℕ} where
  -- One tree is a row of one.
  pub alone : {r : ℕ} → RowEnd encode s at 1 r → EndOf encode s at r
  alone h =
      record { same = λ a p. h.same (record { trees = a ∷ []; many = refl; there = rw append-nil p }) }

  pub row_alone : {r : ℕ} → EndOf encode s at r → RowEnd encode s at 1 r
  row_alone {r} h = record { same = λ p. single p.trees p.many p.there }
    where
      single : (xs : List A) {end : ℕ} → length xs ≡ 1 → Stands s at (row encode xs) end → r ≡ end
      single [] e p = omega arith
      single (a ∷ []) e p = h.same a (rw append-nil at p)
      single (a ∷ b ∷ xs) e p = omega arith

  -- The traversal begins with all of them, and is done when none is left.
  pub starts : {count : ℕ} → Traversed encode s at count at count
  starts = record { same = λ p. p }

  pub done : {count i left : ℕ} → Traversed encode s at count i left → left ≤ 0 → RowEnd encode s at count i
  done w h = record {
    same = λ p. let q = w.same p in none encode q.trees (omega (arith, q.many)) q.there;
  }

module _ {A B : Type 0} {field : B → List ℕ} {encode : A → List ℕ} {kinds : ℕ} {table : List Layout}
    (node : (a : A) → Node field encode kinds table a) where
  -- Each tree has a byte at least, so a row has no more trees than the slice has bytes.
  bytes : (xs : List A) → length xs ≤ length (row encode xs)
  bytes [] = omega arith
  bytes (x ∷ xs) =
      let more : 1 ≤ length (encode x) = rw (node x).shape (omega arith) in
      omega (arith, bytes xs, length-append (encode x) (row encode xs))

  room : {s : List ℕ} {at count end : ℕ} → InRow encode s at count end → count ≤ length s - at
  room {s} {at} {end} p =
      omega (
        arith,
        bytes p.trees,
        length-drop at s,
        ap length p.there.bytes,
        length-append (row encode p.trees) (drop end s),
      )

  -- Where there are too few bytes, no such row stands.
  pub too_many : {s : List ℕ} {at count r : ℕ} → length s < count → RowEnd encode s at count r
  too_many h = record { same = λ p. absurd (let fits = room p in omega arith) }

  pub stuck : {s : List ℕ} {at count i left : ℕ}
      → Traversed encode s at count i left → 0 < left → length s ≤ i → RowEnd encode s at count i
  stuck w h l = record { same = λ p. absurd (let fits = room (w.same p) in omega arith) }

  -- The first tree of a row gives way to its parts, which stand where its fields end.
  next : {s : List ℕ} {i left end b r : ℕ} {l : Layout} (xs : List A) → length xs ≡ left → Stands s i (row encode xs) end
      → 0 < left → b ≡ get_or s i 0 → l ≡ layout_of table (b % kinds) → RowEnd field s (i + 1) (fields l) r
      → InRow encode s r (left - 1 + parts l) end
  next [] m p h e g o = absurd (omega arith)
  next {s} {i} {left} {end} {b} {r} {l} (x ∷ xs) m p h e g o =
      let N = node x in
      let (first, k, (mid, f, (last, t, rest))) =
      parts-of (N.kind ∷ []) (row field N.own ∷ row encode N.inner ∷ row encode xs ∷ []) (rw N.shape at p) in
      let kind : b % kinds ≡ N.kind = rw (e, ← first_byte k) (mod-eq_of_lt N.small) in
      let same : l ≡ layout_of table N.kind = rw kind at g in
      let second : first ≡ i + 1 = k.size in
      let fields-end : r ≡ mid =
      o.same (record { trees = N.own; many = N.owned ∙ sym (ap fields same); there = rw second at f }) in
      record {
        trees = N.inner ++ xs;
        many = omega (arith, length-append N.inner xs, N.parted, ap parts same);
        there = rw (row_append encode N.inner xs, fields-end) (t ⨾ rest);
      }

  pub step : {s : List ℕ} {at count i left b r : ℕ} {l : Layout} → Traversed encode s at count i left → 0 < left
      → b ≡ get_or s i 0 → l ≡ layout_of table (b % kinds) → RowEnd field s (i + 1) (fields l) r
      → Traversed encode s at count r (left - 1 + parts l)
  step w h e g o =
      record { same = λ p. let q = w.same p in next q.trees q.many q.there h e g o }
