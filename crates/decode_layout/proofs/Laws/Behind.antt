-- What stands behind the kind and the terms of a process or a formula ("Bytes").
use mathlib.Core.Path.{◌≡◌, sym, ap, ◌∙◌}
use mathlib.Core.List.{List, [], ◌∷◌}
use Prim.Native.Nat.{ℕ, ◌+◌, ◌%◌}
use native.Mathlib.Nat.{mod-eq_of_lt}
use native.Mathlib.Omega.{arith}
use lib.ListN.{length, get_or}
use Rattle.meaning.specs.Bytes.Encoding.{encode_term}
use Rattle.meaning.specs.Bytes.Standing.{Stands}
use Rattle.meaning.proofs.Bytes.Reading.Place.{parts as parts-of}
use Rattle.decode_layout.specs.declared.layout.Layout.{Layout}
use Rattle.decode_layout.specs.Layout.{fields, parts, layout_of}
use Rattle.decode_layout.specs.Ends.{row, RowEnd}
use Rattle.decode_layout.proofs.Laws.Standing.{Node, first_byte}

module _ {A : Type 0} {encode : A → List ℕ} {kinds : ℕ} {table : List Layout} {a : A} (N : Node encode_term encode kinds table a) where
  -- It is of the kind k, its terms end at r, and its parts, as many as the layout says, at end.
  pub record Behind (s : List ℕ) (at k r : ℕ) (l : Layout) (end : ℕ) : Type 0 where
    pub kind : k ≡ N.kind
    pub own : r ≡ at + 1 + length (row encode_term N.own)
    pub stands : Stands s r (row encode N.inner) end
    pub many : length N.inner ≡ parts l

  pub behind : {s : List ℕ} {at b r end : ℕ} {l : Layout} → b ≡ get_or s at 0 → l ≡ layout_of table (b % kinds)
      → RowEnd encode_term s (at + 1) (fields l) r → Stands s at (encode a) end → Behind s at (b % kinds) r l end
  behind {s} {at} {b} {r} {l = l} k g o p =
      let (first, q, (mid, f, t)) =
      parts-of (N.kind ∷ []) (row encode_term N.own ∷ row encode N.inner ∷ []) (rw N.shape at p) in
      let kind : b % kinds ≡ N.kind = rw (k, ← first_byte q) (mod-eq_of_lt N.small) in
      let same : l ≡ layout_of table N.kind = rw kind at g in
      let second : first ≡ at + 1 = q.size in
      let ends : r ≡ mid = o.same (record { trees = N.own; many = N.owned ∙ sym (ap fields same); there = rw second at f }) in
      record { kind = kind; own = omega (arith, f.size); stands = rw (← ends) at t; many = N.parted ∙ sym (ap parts same) }
