-- What a table of layouts says of every kind: one computed test over its rows ("Bytes").
use mathlib.Core.Path.{◌≡◌}
use mathlib.Core.Bool.{Bool, true, false, ◌&&◌}
use mathlib.Core.List.{List, [], ◌∷◌}
use Prim.Native.Nat.{ℕ, zero, suc, ◌≤◌, ◌<◌}
use native.Mathlib.Omega.{arith}
use lib.Dec.{T, leb, leb→le}
use mir.Facts.{and_yes}
use Rattle.decode_layout.specs.declared.layout.Layout.{Layout}
use Rattle.decode_layout.specs.Layout.{fields, binds, step, parts, layout, layout_of, term_layouts, process_layouts, formula_layouts}

-- The row of a kind that is known.
pub row_of : (table : List Layout) {l : Layout} {k : ℕ} (n : ℕ) → k ≡ n → l ≡ layout_of table n → l ≡ layout_of table k
row_of table n e r = rw e r

-- A kind that is none of the first n is at least n.
abbrev pub Others : (n k : ℕ) → Type 0
Others zero k = Unit {0}
Others (suc n) k = Others n k × (k ≡ n → ⊥)

pub others_above : (n k : ℕ) → Others n k → n ≤ k
others_above zero k o = omega arith
others_above (suc n) k o = omega (arith, others_above n k o.0, o.1)

-- So the last row is that of a kind that is none of those before it.
pub last_row : (table : List Layout) {l : Layout} {k : ℕ} (n : ℕ) → Others n k → k < suc n → l ≡ layout_of table n → l ≡ layout_of table k
last_row table {k = k} n o h = row_of table n (omega (arith, others_above n k o))

-- In each row, one number is at most another.
module _ (small large : Layout → ℕ) where
  abbrev in_order : List Layout → Bool
  in_order [] = true
  in_order (l ∷ table) = leb (small l) (large l) && in_order table

  at_kind : T (leb (small (layout 0 0 false 0)) (large (layout 0 0 false 0))) → (table : List Layout) → T (in_order table) → (k : ℕ)
      → small (layout_of table k) ≤ large (layout_of table k)
  at_kind z [] t k = leb→le (small (layout 0 0 false 0)) (large (layout 0 0 false 0)) z
  at_kind z (l ∷ table) t zero = leb→le (small l) (large l) (and_yes (leb (small l) (large l)) (in_order table) t).0
  at_kind z (l ∷ table) t (suc k) = at_kind z table (and_yes (leb (small l) (large l)) (in_order table) t).1 k

-- No kind has more than two parts.
abbrev pub FewParts : List Layout → Type 0
FewParts table = T (in_order parts (λ l. 2) table)

pub two_at_most : (table : List Layout) → FewParts table → {l : Layout} (k : ℕ) → l ≡ layout_of table k → parts l ≤ 2
two_at_most table t k e = rw e (at_kind parts (λ l. 2) tt table t k)

-- No term has more than one number of its own, and no process binds more than one variable.
pub one_number : {l : Layout} (k : ℕ) → l ≡ layout_of term_layouts k → fields l ≤ 1
one_number k e = rw e (at_kind fields (λ l. 1) tt term_layouts tt k)

pub one_variable : {l : Layout} (k : ℕ) → l ≡ layout_of process_layouts k → binds l ≤ 1
one_variable k e = rw e (at_kind binds (λ l. 1) tt process_layouts tt k)

-- A formula is one step formula at most, and adds an alias only if it is one.
pub one_step : {l : Layout} (k : ℕ) → l ≡ layout_of formula_layouts k → step l ≤ 1
one_step k e = rw e (at_kind step (λ l. 1) tt formula_layouts tt k)

pub steps_add : {l : Layout} (k : ℕ) → l ≡ layout_of formula_layouts k → binds l ≤ step l
steps_add k e = rw e (at_kind binds step tt formula_layouts tt k)
