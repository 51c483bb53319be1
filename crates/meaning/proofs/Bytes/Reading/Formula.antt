-- Formulas ("Bytes"): what is read stands there, in scope and within the nesting limits (sound), and all that does so is read
-- (complete).
use mathlib.Core.Path.{◌≡◌, refl}
use mathlib.Core.List.{List, [], ◌∷◌}
use Prim.Native.Nat.{ℕ, zero, suc, ◌+◌, ◌-◌, ◌≤◌, ◌<◌}
use native.Mathlib.Nat.{zero-add}
use native.Mathlib.Numerals.{one-add}
use native.Mathlib.Omega.{arith}
use lib.Dec.{T, ltb→lt, lt→ltb}
use Rattle.meaning.specs.Bytes.Formula.{Label, Formula}
use Rattle.meaning.specs.Bytes.Encoding.{encode_term, encode_formula}
use Rattle.meaning.specs.Bytes.Scope.{FormulaScoped}
use Rattle.meaning.specs.Bytes.Nesting.{formula_terms, formula_depth, step_depth}
use Rattle.meaning.specs.Bytes.Number.{found, and_then}
use Rattle.meaning.specs.Bytes.Kind.{FormulaKind}
use Rattle.meaning.specs.Bytes.Reading.{never, steps_left, formula_fields, formula}
use Rattle.meaning.specs.Bytes.WellFormed.{Bytes}
use Rattle.meaning.specs.Bytes.Standing.{Stands}
use Rattle.meaning.proofs.Bytes.Reading.Place.{◌⨾◌, parts}
use Rattle.meaning.proofs.Bytes.Reader.{Only, holds, fails, and-then}
use Rattle.meaning.proofs.Bytes.Reading.Kind.{formula_code, formula_table, kind_sound, kind_complete}
use Rattle.meaning.proofs.Bytes.Reading.Term.{term_sound, term_complete}

-- The bytes of the formula stand there, it is in scope, and it is within what is left of the limits.
abbrev pub FormulaAt : List ℕ → (left steps scope at : ℕ) → Formula → (end : ℕ) → Type 0
FormulaAt s left steps scope at F end =
    Stands s at (encode_formula F) end × FormulaScoped scope F
    × ((formula_terms F ≤ 8) × (formula_depth F ≤ left) × (step_depth F ≤ steps))

module _ {s : List ℕ} (bytes : Bytes s) where
  -- The fields of each kind, with a sound reader of the parts.
  fields_sound : {left steps scope at mid : ℕ}
      → ((steps scope at : ℕ) → Only (FormulaAt s left steps scope at) (formula left steps scope s at))
      → (k : FormulaKind) → Stands s at (formula_code k ∷ []) mid → T (steps_left steps k)
      → Only (FormulaAt s (suc left) steps scope at) (formula_fields (λ m n e. formula left m n s e) steps scope s k mid)
  unfolding formula_fields encode_formula
  fields_sound part FormulaKind.equal k more =
      and-then (term_sound bytes _ _ _) λ M _ m. and-then (term_sound bytes _ _ _) λ N _ n.
      holds (k ⨾ m.0 ⨾ n.0, (m.1, n.1), omega arith)
  fields_sound part FormulaKind.not k more = and-then (part _ _ _) λ F _ f. holds (k ⨾ f.0, f.1, omega arith)
  fields_sound part FormulaKind.and k more =
      and-then (part _ _ _) λ F _ f. and-then (part _ _ _) λ G _ g. holds (k ⨾ f.0 ⨾ g.0, (f.1, g.1), omega arith)
  fields_sound part FormulaKind.output k more =
      and-then (term_sound bytes _ _ _) λ C _ c. and-then (part _ _ _) λ F _ f.
      holds (k ⨾ c.0 ⨾ f.0, (c.1, rw one-add f.1), omega (arith, ltb→lt))
  fields_sound part FormulaKind.input k more =
      and-then (term_sound bytes _ _ _) λ C _ c. and-then (term_sound bytes _ _ _) λ M _ m.
      and-then (part _ _ _) λ F _ f. holds (k ⨾ c.0 ⨾ m.0 ⨾ f.0, ((c.1, m.1), rw zero-add f.1), omega (arith, ltb→lt))
  fields_sound part FormulaKind.silent k more =
      and-then (part _ _ _) λ F _ f. holds (k ⨾ f.0, (tt, rw zero-add f.1), omega (arith, ltb→lt))

  pub formula-sound : (left steps scope at : ℕ) → Only (FormulaAt s left steps scope at) (formula left steps scope s at)
  unfolding formula
  formula-sound zero steps scope at = and-then (kind_sound formula_table never bytes at) λ k _ p. fails tt
  formula-sound (suc left) steps scope at =
      and-then (kind_sound formula_table (steps_left steps) bytes at) λ k _ p. fields_sound (formula-sound left) k p.0 p.1

-- On some path of a formula there is a node.
depth_positive : (F : Formula) → 0 < formula_depth F
depth_positive (Formula.equal M N) = omega arith
depth_positive (Formula.not F) = omega arith
depth_positive (Formula.and F G) = omega arith
depth_positive (Formula.step a F) = omega arith

pub formula-complete : {s : List ℕ} (left steps scope : ℕ) → steps + scope ≤ 16 → (F : Formula) {at end : ℕ}
    → FormulaAt s left steps scope at F end → formula left steps scope s at ≡ found F end
unfolding formula formula_fields encode_formula and_then
formula-complete zero steps scope small F h = absurd (omega (arith, depth_positive F))
formula-complete (suc left) steps scope small (Formula.equal M N) h =
    let (_, k, (_, m, n)) = parts (0 ∷ []) (encode_term M ∷ encode_term N ∷ []) h.0 in
    rw (
      kind_complete formula_table (steps_left steps) FormulaKind.equal refl tt k,
      term_complete 8 scope (omega arith) M (m, h.1.0, omega arith),
      term_complete 8 scope (omega arith) N (n, h.1.1, omega arith),
    )
formula-complete (suc left) steps scope small (Formula.not F) h =
    let (_, k, f) = parts (1 ∷ []) (encode_formula F ∷ []) h.0 in
    rw (
      kind_complete formula_table (steps_left steps) FormulaKind.not refl tt k,
      formula-complete left steps scope small F (f, h.1, omega arith),
    )
formula-complete (suc left) steps scope small (Formula.and F G) h =
    let (_, k, (_, f, g)) = parts (2 ∷ []) (encode_formula F ∷ encode_formula G ∷ []) h.0 in
    rw (
      kind_complete formula_table (steps_left steps) FormulaKind.and refl tt k,
      formula-complete left steps scope small F (f, h.1.0, omega arith),
      formula-complete left steps scope small G (g, h.1.1, omega arith),
    )
formula-complete (suc left) steps scope small (Formula.step (Label.output C) F) h =
    let (_, k, (_, c, f)) = parts (3 ∷ []) (encode_term C ∷ encode_formula F ∷ []) h.0 in
    rw (
      kind_complete formula_table (steps_left steps) FormulaKind.output refl (omega (arith, lt→ltb)) k,
      term_complete 8 scope (omega arith) C (c, h.1.0, omega arith),
      formula-complete left (steps - 1) (suc scope) (omega arith) F (f, rw one-add at h.1.1, omega arith),
    )
formula-complete (suc left) steps scope small (Formula.step (Label.input C M) F) h =
    let (_, k, (_, c, (_, m, f))) = parts (4 ∷ []) (encode_term C ∷ encode_term M ∷ encode_formula F ∷ []) h.0 in
    rw (
      kind_complete formula_table (steps_left steps) FormulaKind.input refl (omega (arith, lt→ltb)) k,
      term_complete 8 scope (omega arith) C (c, h.1.0.0, omega arith),
      term_complete 8 scope (omega arith) M (m, h.1.0.1, omega arith),
      formula-complete left (steps - 1) scope (omega arith) F (f, rw zero-add at h.1.1, omega arith),
    )
formula-complete (suc left) steps scope small (Formula.step Label.silent F) h =
    let (_, k, f) = parts (5 ∷ []) (encode_formula F ∷ []) h.0 in
    rw (
      kind_complete formula_table (steps_left steps) FormulaKind.silent refl (omega (arith, lt→ltb)) k,
      formula-complete left (steps - 1) scope (omega arith) F (f, rw zero-add at h.1.1, omega arith),
    )
