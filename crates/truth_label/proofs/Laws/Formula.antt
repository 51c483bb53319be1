-- A formula that stands at a position, by its kind ("Bytes", the formula kinds).
use mathlib.Core.Path.{◌≡◌, refl, sym, ◌∙◌}
use mathlib.Core.List.{List, [], ◌∷◌, ◌++◌, append_assoc}
use Prim.Native.Nat.{ℕ, zero, suc, ◌+◌, ◌-◌, ◌≤◌, ◌<◌}
use native.Mathlib.Omega.{arith}
use lib.ListN.{length, get_or, length-append}
use Rattle.meaning.specs.Messages.Term.{Term}
use Rattle.meaning.specs.Bytes.Formula.{Label, output, input, silent, Formula, equal, not, and, step}
use Rattle.meaning.specs.Bytes.Encoding.{encode_term, encode_formula}
use Rattle.meaning.specs.Bytes.Scope.{binds_label}
use Rattle.meaning.specs.Bytes.WellFormed.{IsFormula}
use Rattle.meaning.proofs.Bytes.Reading.Place.{parts}
use Rattle.decode_layout.proofs.Laws.Standing.{first_byte, goes_on}
use Rattle.index_formula.specs.Index.{Indexed, InFormula, Builds}
use Rattle.message_term.specs.Work.{TermAt}
use Rattle.truth_label.specs.Place.{FormulaAt, FormulaIn, kind_of, encode_label, LabelAt}

-- The numbers that document 01 gives to the kinds.
abbrev pub kind_number : Formula → ℕ
kind_number (equal M N) = 0
kind_number (not F) = 1
kind_number (and F G) = 2
kind_number (step a F) = kind_of a

-- What a formula of a kind looks like. From 3 on it is a step formula.
abbrev pub Shape : ℕ → Formula → Type 0
Shape zero F = (M N : Term) × (F ≡ equal M N)
Shape (suc zero) F = (G : Formula) × (F ≡ not G)
Shape (suc (suc zero)) F = (G H : Formula) × (F ≡ and G H)
Shape (suc (suc (suc n))) F = (a : Label) × (G : Formula) × (F ≡ step a G) × (suc (suc (suc n)) ≡ kind_of a)

shape : (F : Formula) → Shape (kind_number F) F
shape (equal M N) = (M, N, refl)
shape (not F) = (F, refl)
shape (and F G) = (F, G, refl)
shape (step (output C) F) = (output C, F, refl, refl)
shape (step (input C M) F) = (input C M, F, refl, refl)
shape (step silent F) = (silent, F, refl, refl)

-- A step formula: the kind, the fields of the label, the body, which is in the index where they end.
step_bytes : (a : Label) (F : Formula) → encode_formula (step a F) ≡ kind_of a ∷ encode_label a ++ encode_formula F
unfolding encode_formula
step_bytes (output C) F = refl
step_bytes (input C M) F = rw append_assoc
step_bytes silent F = refl

step_indexed : (f : List ℕ) (at body : ℕ) (a : Label) (F : Formula) → body ≡ at + 1 + length (encode_label a) → Indexed f at (step a F)
    → Indexed f body F
step_indexed f at body (output C) F e i = rw e i.1
step_indexed f at body (input C M) F e i =
    let both : body ≡ at + 1 + length (encode_term C) + length (encode_term M) = omega (arith, length-append (encode_term C) (encode_term M)) in
    rw both i.1
step_indexed f at body silent F e i = let first : body ≡ at + 1 = omega arith in rw first i.1

module _ {f : List ℕ} {at left steps scope next : ℕ} where
  -- It is among the bytes of the whole formula, and in the index.
  pub in_formula : {F : Formula} → FormulaAt f at left steps scope F next → InFormula f at F next
  in_formula p = record { stands = p.stands; indexed = p.indexed; inside = p.inside }

  -- A kind stands first, and a node is left for it.
  pub formula_kind : (F : Formula) → FormulaAt f at left steps scope F next → (get_or f at 0 ≡ kind_number F) × (at < length f) × (1 ≤ left)
  unfolding encode_formula
  formula_kind (equal M N) p = (sym (first_byte p.stands), goes_on p.stands, omega (arith, p.deep))
  formula_kind (not F) p = (sym (first_byte p.stands), goes_on p.stands, omega (arith, p.deep))
  formula_kind (and F G) p = (sym (first_byte p.stands), goes_on p.stands, omega (arith, p.deep))
  formula_kind (step a F) p =
      let q = rw (step_bytes a F) at p.stands in (sym (first_byte q), goes_on q, omega (arith, p.deep))

  -- So the byte there tells what it looks like.
  pub shaped : (k : ℕ) (F : Formula) → FormulaAt f at left steps scope F next → get_or f at 0 ≡ k → Shape k F
  shaped k F p e = rw (sym e ∙ (formula_kind F p).0) (shape F)

  pub shaped_step : (F : Formula) → FormulaAt f at left steps scope F next → 3 ≤ get_or f at 0
      → (a : Label) × (G : Formula) × (F ≡ step a G) × (get_or f at 0 ≡ kind_of a)
  shaped_step (equal M N) p h = absurd (omega (arith, (formula_kind (equal M N) p).0))
  shaped_step (not F) p h = absurd (omega (arith, (formula_kind (not F) p).0))
  shaped_step (and F G) p h = absurd (omega (arith, (formula_kind (and F G) p).0))
  shaped_step (step a F) p h = (a, F, refl, (formula_kind (step a F) p).0)

  -- Its parts.
  pub of_equal : (M N : Term) → FormulaAt f at left steps scope (equal M N) next
      → (mid : ℕ) × TermAt f (at + 1) 8 scope M mid × TermAt f mid 8 scope N next
  unfolding encode_formula
  of_equal M N p =
      let (first, k, (mid, m, n)) = parts (0 ∷ []) (encode_term M ∷ encode_term N ∷ []) p.stands in (
        mid,
        record { stands = rw k.size at m; deep = omega (arith, p.terms); scoped = p.scoped.0 },
        record { stands = n; deep = omega (arith, p.terms); scoped = p.scoped.1 },
      )

  pub of_not : (G : Formula) → FormulaAt f at left steps scope (not G) next → FormulaAt f (at + 1) (left - 1) steps scope G next
  unfolding encode_formula
  of_not G p =
      let (mid, k, q) = parts (1 ∷ []) (encode_formula G ∷ []) p.stands in
      record {
        stands = rw k.size at q;
        deep = omega (arith, p.deep);
        stepped = p.stepped;
        terms = p.terms;
        scoped = p.scoped;
        indexed = p.indexed.1;
        inside = p.inside;
      }

  pub of_and : (G H : Formula) → FormulaAt f at left steps scope (and G H) next
      → (mid : ℕ) × FormulaAt f (at + 1) (left - 1) steps scope G mid × FormulaAt f mid (left - 1) steps scope H next
  unfolding encode_formula
  of_and G H p =
      let (first, k, (mid, x, y)) = parts (2 ∷ []) (encode_formula G ∷ encode_formula H ∷ []) p.stands in
      let second : mid ≡ at + 1 + length (encode_formula G) = omega (arith, x.size, k.size) in (
        mid,
        record {
          stands = rw k.size at x;
          deep = omega (arith, p.deep);
          stepped = omega (arith, p.stepped);
          terms = omega (arith, p.terms);
          scoped = p.scoped.0;
          indexed = p.indexed.1;
          inside = omega (arith, p.inside, y.size);
        },
        record {
          stands = y;
          deep = omega (arith, p.deep);
          stepped = omega (arith, p.stepped);
          terms = omega (arith, p.terms);
          scoped = p.scoped.1;
          indexed = rw second p.indexed.2;
          inside = p.inside;
        },
      )

  pub of_step : (a : Label) (G : Formula) → FormulaAt f at left steps scope (step a G) next
      → (body : ℕ) × LabelAt f (at + 1) scope a body
      × FormulaAt f body (left - 1) (steps - 1) (binds_label a + scope) G next × (1 ≤ steps)
  of_step a G p =
      let (first, k, (body, m, x)) =
      parts (kind_of a ∷ []) (encode_label a ∷ encode_formula G ∷ []) (rw (step_bytes a G) at p.stands) in (
        body,
        record { stands = rw k.size at m; terms = omega (arith, p.terms); scoped = p.scoped.0 },
        record {
          stands = x;
          deep = omega (arith, p.deep);
          stepped = omega (arith, p.stepped);
          terms = omega (arith, p.terms);
          scoped = p.scoped.1;
          indexed = step_indexed f at body a G (omega (arith, m.size, k.size)) p.indexed;
          inside = p.inside;
        },
        omega (arith, p.stepped),
      )

-- A formula that was put into a slice with its index stands there.
pub formula_in : {formula f : List ℕ} {F : Formula} → Builds formula f → IsFormula formula F → FormulaIn f F
formula_in {formula} {F = F} b w =
    let p = b.exact F w in
    record {
      next = length formula;
      at = record {
        stands = p.stands;
        deep = w.nodes;
        stepped = w.steps;
        terms = w.terms;
        scoped = w.scoped;
        indexed = p.indexed;
        inside = p.inside;
      };
    }
