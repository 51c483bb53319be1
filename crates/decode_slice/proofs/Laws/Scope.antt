-- The paths to the parts of a node that may stand ("Turned back for the input", 7).
use Rattle.std.specs.Int.{from_bool}
use mathlib.Core.Path.{◌≡◌}
use mathlib.Core.Bool.{Bool, ◌&&◌, ◌||◌}
use mathlib.Core.Logic.{◌⊎◌, inl, inr, ⊎_elim}
use Prim.Native.Nat.{ℕ, ◌+◌, ◌-◌, ◌≤◌}
use native.Mathlib.Omega.{arith}
use lib.Dec.{T, ltb, eqb, ltb→lt, eqb→eq}
use mir.Facts.{and_yes, or_yes}
use mir.Syntax.{w64}
use mir.Val.{Fits}
use Rattle.decode_layout.specs.Layout.{binds, step, layout_of, process_layouts, formula_layouts}
use Rattle.decode_slice.specs.Sorts.{process_room, formula_room}
use Rattle.decode_slice.specs.declared.process.Path.{Path as ProcessPath}
use Rattle.decode_slice.specs.declared.formula.Path.{Path as FormulaPath}
use Rattle.decode_layout.specs.declared.layout.Layout.{Layout}
use Rattle.decode_layout.proofs.Laws.Table.{one_variable, one_step, steps_add}

-- Either a kind does not count, or there is room for what it counts.
room_cases : (n : ℕ) (b : Bool) → T (eqb n 0 || b) → (n ≡ 0) ⊎ T b
room_cases n b t = ⊎_elim (λ u. inl (eqb→eq n 0 u)) (λ u. inr u) (or_yes (eqb n 0) b t)

-- The variable that a binder adds is at most the twelfth.
module _ (p : ProcessPath) (k : ℕ) (t : T (ltb 0 p.left && process_room p.scope (layout_of process_layouts k))) {l : Layout}
    (g : l ≡ layout_of process_layouts k) where
  pub scope_fits : Fits w64 p.scope → Fits w64 (p.scope + binds l)
  unfolding process_room
  scope_fits h =
      ⊎_elim (λ u. omega arith) (λ u. omega (arith, one_variable k g, ltb→lt p.scope 12 u))
      (room_cases (binds l) (ltb p.scope 12) (rw g (and_yes (ltb 0 p.left) _ t).1))

-- Only step formulas add aliases, so aliases and step formulas left are never more than at the start.
module _ (p : FormulaPath) (k : ℕ) (few : p.scope + p.steps ≤ 16) {l : Layout} (g : l ≡ layout_of formula_layouts k) where
  module _ (t : T (ltb 0 p.left && formula_room p.steps (layout_of formula_layouts k))) {counts : ℕ} (h : counts ≡ from_bool l.step) where
    pub step_left : counts ≤ p.steps
    unfolding formula_room
    step_left = rw h (
        ⊎_elim (λ u. omega arith) (λ u. omega (arith, one_step k g, ltb→lt 0 p.steps u))
        (room_cases (step l) (ltb 0 p.steps) (rw g (and_yes (ltb 0 p.left) _ t).1)))

    pub still_few : p.scope + binds l + (p.steps - counts) ≤ 16
    still_few = let fits = step_left in rw h (omega (arith, rw h at fits, steps_add k g))
