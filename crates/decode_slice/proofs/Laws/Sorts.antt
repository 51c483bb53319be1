-- The layouts of processes and formulas ("Bytes"): what `meaning` reads of each, without the tree, is a head and parts.
-- Terms are in the crate `decode_term`.
use mathlib.Core.Path.{◌≡◌, refl}
use mathlib.Core.List.{List}
use Prim.Native.Nat.{ℕ, zero, suc, ◌-◌}
use native.Mathlib.Nat.{add-zero, sub-zero}
use native.Mathlib.Numerals.{add-one}
use native.Mathlib.Omega.{arith}
use Rattle.meaning.specs.Messages.Term.{Term}
use Rattle.meaning.specs.Bytes.Kind.{process_kinds, formula_kinds}
use Rattle.meaning.specs.Bytes.Number.{Read, and_then}
use Rattle.meaning.specs.Bytes.Process.{Process}
use Rattle.meaning.specs.Bytes.Formula.{Formula}
use Rattle.meaning.specs.Bytes.Reading.{field, room_for, process_fields, process}
use Rattle.meaning.specs.Bytes.Reading.{steps_left, formula_fields, formula}
use Rattle.decode_number.specs.Answer.{Extent, extent}
use Rattle.decode_layout.specs.Layout.{parts, layout_of, process_layouts, formula_layouts}
use Rattle.decode_term.specs.Shape.{times, node, terms_at}
use Rattle.decode_term.specs.Sort.{Nodes}
use Rattle.decode_slice.specs.Paths.{process_below, formula_below}
use Rattle.decode_layout.proofs.Laws.Table.{two_at_most}
use Rattle.decode_slice.specs.Sorts.{own_terms, process_room, process_head, process_part, formula_room, formula_head, formula_part}
use Rattle.decode_term.proofs.Laws.Alike.{both_end, same_extent, and_part, and_field}
use Rattle.decode_term.proofs.Laws.Rows.{◌also◌, complete, Rows, node_alike, too_deep}

-- Processes.
module _ (left scope : ℕ) (s : List ℕ) where
  abbrev terms : ℕ → Read Term
  terms e = field scope s e

  abbrev same : ℕ → Read Process
  same e = process left scope s e

  abbrev bound : ℕ → Read Process
  bound e = process left (suc scope) s e

  process_rows : Rows (room_for scope) (λ k end. process_fields (λ n e. process left n s e) scope s k end) process_kinds
      (λ k. process_room scope (layout_of process_layouts k)) (λ k end. and_then (own_terms scope s (layout_of process_layouts k) end)
      (λ _ end. times (parts (layout_of process_layouts k)) (process_part left scope s (layout_of process_layouts k)) end))
  unfolding process_fields process_room process_part own_terms terms_at times and_then
  process_rows = simp (add-one, add-zero) (
      (refl, λ t end. both_end)
      also (refl, λ t end. and_part bound 0 end λ P end. both_end)
      also (refl, λ t end. and_field terms 1 end _ λ C end. and_field terms 0 end _ λ M end. and_part same 0 end λ P end. both_end)
      also (refl, λ t end. and_field terms 0 end _ λ C end. and_part bound 0 end λ P end. both_end)
      also (
        refl,
        λ t end. and_field terms 1 end _ λ M end. and_field terms 0 end _ λ N end.
            and_part same 1 end λ P end. and_part same 0 end λ Q end. both_end,
      )
      also (refl, λ t end. and_field terms 0 end _ λ M end. and_part bound 0 end λ P end. both_end)
      also (refl, λ t end. and_part same 1 end λ P end. and_part same 0 end λ Q end. both_end)
      also (refl, λ t end. and_part same 0 end λ P end. both_end)
      also complete)

-- A process as a head and parts.
abbrev pub process_node : (left scope : ℕ) → List ℕ → (at : ℕ) → Extent
process_node left scope s at =
    node (process_head left scope s at) process_layouts (λ k. process_part (left - 1) scope s (layout_of process_layouts k))

pub process_layout : (left scope : ℕ) (s : List ℕ) (at : ℕ) → extent (process left scope s at) ≡ process_node left scope s at
unfolding process
process_layout zero scope s at = same_extent (too_deep _ process_kinds _ _ process_layouts _ s at)
process_layout (suc left) scope s at =
    let down : suc left - 1 ≡ left = omega arith in
    rw down (same_extent (node_alike (room_for scope) _ process_kinds (suc left) _ _ process_layouts _ s at (omega arith)
    (process_rows left scope s)))

-- So processes are a sort.
pub processes : Nodes 8 process_layouts (λ p. p.left) (λ p k. process_room p.scope (layout_of process_layouts k))
    (λ p s k. own_terms p.scope s (layout_of process_layouts k)) process_below (λ p s at. extent (process p.left p.scope s at))
unfolding process_part
processes = record {
  few = λ k. two_at_most process_layouts tt k refl;
  falls = λ p k. refl;
  shape = λ p s at. process_layout p.left p.scope s at;
}

-- Formulas.
module _ (left steps scope : ℕ) (s : List ℕ) where
  abbrev recipes : ℕ → Read Term
  recipes e = field scope s e

  abbrev inside : ℕ → Read Formula
  inside e = formula left steps scope s e

  abbrev stepped : ℕ → Read Formula
  stepped e = formula left (steps - 1) scope s e

  abbrev extended : ℕ → Read Formula
  extended e = formula left (steps - 1) (suc scope) s e

  formula_rows : Rows (steps_left steps) (λ k end. formula_fields (λ m n e. formula left m n s e) steps scope s k end) formula_kinds
      (λ k. formula_room steps (layout_of formula_layouts k)) (λ k end. and_then (own_terms scope s (layout_of formula_layouts k) end)
      (λ _ end. times (parts (layout_of formula_layouts k)) (formula_part left steps scope s (layout_of formula_layouts k)) end))
  unfolding formula_fields formula_room formula_part own_terms terms_at times and_then
  formula_rows = simp (add-one, add-zero, sub-zero) (
      (refl, λ t end. and_field recipes 1 end _ λ M end. and_field recipes 0 end _ λ N end. both_end)
      also (refl, λ t end. and_part inside 0 end λ F end. both_end)
      also (refl, λ t end. and_part inside 1 end λ F end. and_part inside 0 end λ G end. both_end)
      also (refl, λ t end. and_field recipes 0 end _ λ C end. and_part extended 0 end λ F end. both_end)
      also (
        refl,
        λ t end. and_field recipes 1 end _ λ C end. and_field recipes 0 end _ λ M end.
            and_part stepped 0 end λ F end. both_end,
      )
      also (refl, λ t end. and_part stepped 0 end λ F end. both_end)
      also complete)

-- A formula as a head and parts.
abbrev pub formula_node : (left steps scope : ℕ) → List ℕ → (at : ℕ) → Extent
formula_node left steps scope s at =
    node (formula_head left steps scope s at) formula_layouts
    (λ k. formula_part (left - 1) steps scope s (layout_of formula_layouts k))

pub formula_layout : (left steps scope : ℕ) (s : List ℕ) (at : ℕ)
    → extent (formula left steps scope s at) ≡ formula_node left steps scope s at
unfolding formula
formula_layout zero steps scope s at = same_extent (too_deep _ formula_kinds _ _ formula_layouts _ s at)
formula_layout (suc left) steps scope s at =
    let down : suc left - 1 ≡ left = omega arith in
    rw down (same_extent (node_alike (steps_left steps) _ formula_kinds (suc left) _ _ formula_layouts _ s at (omega arith)
    (formula_rows left steps scope s)))

-- So formulas are a sort.
pub formulas : Nodes 6 formula_layouts (λ p. p.left) (λ p k. formula_room p.steps (layout_of formula_layouts k))
    (λ p s k. own_terms p.scope s (layout_of formula_layouts k)) formula_below (λ p s at. extent (formula p.left p.steps p.scope s at))
unfolding formula_part
formulas = record {
  few = λ k. two_at_most formula_layouts tt k refl;
  falls = λ p k. refl;
  shape = λ p s at. formula_layout p.left p.steps p.scope s at;
}
