-- What becomes of an input is what the rules say ("Turned back for the input").
use mathlib.Core.Path.{◌≡◌, refl, ap, ◌∙◌}
use mathlib.Core.Bool.{Bool, true, false}
use mathlib.Core.List.{List}
use Prim.Native.Nat.{ℕ, ◌≤◌}
use native.Mathlib.Omega.{arith}
use borrow.Author.Tests.{ltb-true, ltb-false, lt-ltb, le-ltb}
use lib.Dec.{ltb}
use Rattle.meaning.specs.Bytes.Process.{Process}
use Rattle.meaning.specs.Bytes.Formula.{Formula}
use Rattle.meaning.specs.Bytes.WellFormed.{Bytes, IsModel}
use Rattle.meaning.specs.Bytes.Number.{Read, found, refused}
use Rattle.meaning.specs.Bytes.Reading.{read_model, read_formula}
use Rattle.meaning.specs.Bytes.Refusal.{Field, Refusal, slice_too_long, ended_early, bad_form, unlisted_kind, name_over, out_of_scope, too_deep, left_over}
use Rattle.meaning.specs.Verdict.{Input, bad, work_bytes, with_formula, with_second, with_first, input}
use Rattle.meaning.specs.Verdict.Answered.{Sorted, buffer_short, first_refused, second_refused, formula_refused, formed}
use Rattle.meaning.proofs.Bytes.Reading.{models_read, formulas_read}
use Rattle.meaning.proofs.Bytes.Refusal.{models_refused, formulas_refused}

module _ (s₁ s₂ s₃ : List ℕ) (work : ℕ) where
  -- An input is sorted, slice by slice.
  sort_formula : Bytes s₃ → {P Q : Process} → work_bytes ≤ work → IsModel s₁ P → IsModel s₂ Q
      → (r : Read Formula) → read_formula s₃ ≡ r → Sorted s₁ s₂ s₃ work (with_formula P Q r)
  unfolding with_formula
  sort_formula b₃ long p q (found F end) f =
      formed (record { long_enough = long; first = p; second = q; third = (formulas_read s₃ F).1 b₃ end f })
  sort_formula b₃ long p q (refused number place) f = formula_refused long p q ((formulas_refused s₃ number place).0 f)

  sort_second : Bytes s₂ → Bytes s₃ → {P : Process} → work_bytes ≤ work → IsModel s₁ P
      → (r : Read Process) → read_model s₂ ≡ r → Sorted s₁ s₂ s₃ work (with_second P r s₃)
  unfolding with_second
  sort_second b₂ b₃ long p (found Q end) q = sort_formula b₃ long p ((models_read s₂ Q).1 b₂ end q) (read_formula s₃) refl
  sort_second b₂ b₃ long p (refused number place) q = second_refused long p ((models_refused s₂ number place).0 q)

  sort_first : Bytes s₁ → Bytes s₂ → Bytes s₃ → work_bytes ≤ work
      → (r : Read Process) → read_model s₁ ≡ r → Sorted s₁ s₂ s₃ work (with_first r s₂ s₃)
  unfolding with_first
  sort_first b₁ b₂ b₃ long (found P end) p = sort_second b₂ b₃ long ((models_read s₁ P).1 b₁ end p) (read_model s₂) refl
  sort_first b₁ b₂ b₃ long (refused number place) p = first_refused long ((models_refused s₁ number place).0 p)

  pub sorted : Bytes s₁ → Bytes s₂ → Bytes s₃ → Sorted s₁ s₂ s₃ work (input s₁ s₂ s₃ work)
  unfolding input
  sorted b₁ b₂ b₃ = by_length (ltb work work_bytes) refl
    where
      by_length : (b : Bool) → ltb work work_bytes ≡ b
          → Sorted s₁ s₂ s₃ work (elim b [ true ↦ bad 9 0 0 | false ↦ with_first (read_model s₁) s₂ s₃ ])
      by_length true e = buffer_short (ltb-true work work_bytes e)
      by_length false e = sort_first b₁ b₂ b₃ (ltb-false work work_bytes e) (read_model s₁) refl

  -- And there is one way to sort it.
  long_input : work_bytes ≤ work → input s₁ s₂ s₃ work ≡ with_first (read_model s₁) s₂ s₃
  unfolding input
  long_input long = rw (le-ltb work work_bytes long, input)

  after_first : {P : Process} → work_bytes ≤ work → IsModel s₁ P → input s₁ s₂ s₃ work ≡ with_second P (read_model s₂) s₃
  unfolding with_first
  after_first {P} long p = long_input long ∙ ap (λ r. with_first r s₂ s₃) ((models_read s₁ P).0 p)

  after_second : {P Q : Process} → work_bytes ≤ work → IsModel s₁ P → IsModel s₂ Q
      → input s₁ s₂ s₃ work ≡ with_formula P Q (read_formula s₃)
  unfolding with_second
  after_second {P} {Q} long p q = after_first long p ∙ ap (λ r. with_second P r s₃) ((models_read s₂ Q).0 q)

  pub sorted_once : {i : Input} → Sorted s₁ s₂ s₃ work i → input s₁ s₂ s₃ work ≡ i
  unfolding input with_first with_second with_formula
  sorted_once (buffer_short h) = rw (lt-ltb work work_bytes h, input)
  sorted_once (first_refused {n = n} {p = p} long r) = long_input long ∙ ap (λ x. with_first x s₂ s₃) ((models_refused s₁ n p).1 r)
  sorted_once (second_refused {n = n} {p = p} {P = P} long m r) =
      after_first long m ∙ ap (λ x. with_second P x s₃) ((models_refused s₂ n p).1 r)
  sorted_once (formula_refused {n = n} {p = p} {P = P} {Q = Q} long m k r) =
      after_second long m k ∙ ap (λ x. with_formula P Q x) ((formulas_refused s₃ n p).1 r)
  sorted_once (formed {P = P} {Q = Q} {F = F} f) =
      after_second f.long_enough f.first f.second ∙ ap (λ x. with_formula P Q x) ((formulas_read s₃ F).0 f.third)

-- The number by which an input is turned back.
refusal-number : {s : List ℕ} {root : Field} {n p : ℕ} → Refusal s root n p → (1 ≤ n) × (n ≤ 9)
refusal-number (slice_too_long h) = omega arith
refusal-number (ended_early d h) = omega arith
refusal-number (bad_form d h) = omega arith
refusal-number (unlisted_kind d e h) = omega arith
refusal-number (name_over d e h) = omega arith
refusal-number (out_of_scope d e h) = omega arith
refusal-number (too_deep d e h) = omega arith
refusal-number (left_over d h) = omega arith

pub input_refused_by : {s₁ s₂ s₃ : List ℕ} {work n slice place : ℕ} → Sorted s₁ s₂ s₃ work (bad n slice place) → (1 ≤ n) × (n ≤ 9)
input_refused_by (buffer_short h) = omega arith
input_refused_by (first_refused long r) = refusal-number r
input_refused_by (second_refused long m r) = refusal-number r
input_refused_by (formula_refused long m k r) = refusal-number r
