-- Whether there is room for a kind, and the terms of its own ("Turned back for the input", 7).
use mathlib.Core.Path.{◌≡◌}
use mathlib.Core.Bool.{true, false, not}
use mathlib.Core.List.{List}
use Prim.Native.Nat.{ℕ}
use borrow.Author.Tests.{eq-eqb, ne_eqb}
use lib.Dec.{ltb, eqb}
use Rattle.decode_number.specs.Answer.{Extent}
use Rattle.decode_term.specs.Shape.{terms_at}
use Rattle.decode_slice.specs.Sorts.{own_terms, process_room, formula_room}
use Rattle.decode_layout.specs.declared.layout.Layout.{Layout}
use Rattle.decode_layout.specs.Layout.{fields, binds}

-- Room for a variable, or for a step formula, if the kind needs it.
module _ (scope : ℕ) (l : Layout) where
  pub binds_none : binds l ≡ 0 → eqb (binds l) 0 ≡ process_room scope l
  unfolding process_room
  binds_none z = rw (eq-eqb (binds l) 0 z)

  pub binds_one : (binds l ≡ 0 → ⊥) → ltb scope 12 ≡ process_room scope l
  unfolding process_room
  binds_one z = rw (ne_eqb (binds l) 0 z)

module _ (steps : ℕ) (l : Layout) where
  pub no_step : l.step ≡ false → not l.step ≡ formula_room steps l
  unfolding formula_room
  no_step z = rw z

  pub a_step : l.step ≡ true → ltb 0 steps ≡ formula_room steps l
  unfolding formula_room
  a_step z = rw z

-- Terms in a row, of which a table says how many.
pub counted : {x : Extent} {k l : Layout} (scope : ℕ) (s : List ℕ) (at : ℕ) → k ≡ l
    → x ≡ terms_at (fields k) scope s at → x ≡ own_terms scope s l at
unfolding own_terms
counted scope s at e h = rw e at h

pub ruleset rooms = (binds_none, binds_one, no_step, a_step)
