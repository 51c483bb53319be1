-- The readers of processes and formulas ("Bytes"): the terms of a kind's own, whether there is room for it, and its parts, in the
-- shape that is said in the crate `decode_term`, specs/Shape.antt; and a whole slice.
use Rattle.std.specs.Prelude.{ℕ, ◌+◌, ◌-◌, Bool, ◌||◌, List, leb, ltb, eqb, length}
use Rattle.meaning.specs.Bytes.Number.{Read, and_then, provided}
use Rattle.meaning.specs.Bytes.Reading.{process, formula}
use Rattle.decode_layout.specs.declared.layout.Layout.{Layout}
use Rattle.decode_number.specs.Answer.{Extent, extent}
use Rattle.decode_layout.specs.Layout.{fields, binds, step, layout_of, process_layouts, formula_layouts}
use Rattle.decode_term.specs.Shape.{head_of, terms_at}

-- The terms of a kind's own.
unfoldable pub own_terms : (scope : ℕ) → List ℕ → Layout → (at : ℕ) → Extent
own_terms scope s l at = terms_at (fields l) scope s at

-- There is no room for a thirteenth variable, nor for a step formula where none is left.
unfoldable pub process_room : (scope : ℕ) → Layout → Bool
process_room scope l = eqb (binds l) 0 || ltb scope 12

unfoldable pub formula_room : (steps : ℕ) → Layout → Bool
formula_room steps l = eqb (step l) 0 || ltb 0 steps

abbrev pub process_head : (left scope : ℕ) → List ℕ → (at : ℕ) → Read ℕ
process_head left scope s at =
    head_of 8 left (λ k. process_room scope (layout_of process_layouts k))
    (λ k. own_terms scope s (layout_of process_layouts k)) s at

abbrev pub formula_head : (left steps scope : ℕ) → List ℕ → (at : ℕ) → Read ℕ
formula_head left steps scope s at =
    head_of 6 left (λ k. formula_room steps (layout_of formula_layouts k))
    (λ k. own_terms scope s (layout_of formula_layouts k)) s at

-- A part of a process or a formula of this kind, with the variables or aliases that the kind adds.
unfoldable pub process_part : (left scope : ℕ) → List ℕ → Layout → (at : ℕ) → Extent
process_part left scope s l at = extent (process left (scope + binds l) s at)

unfoldable pub formula_part : (left steps scope : ℕ) → List ℕ → Layout → (at : ℕ) → Extent
formula_part left steps scope s l at = extent (formula left (steps - step l) (scope + binds l) s at)

-- What ends where the slice does; if it ends before, bytes are left over.
unfoldable pub to_the_end : List ℕ → Extent → Extent
to_the_end s x = and_then x (λ _ end. provided (leb (length s) end) 8 end tt end)
