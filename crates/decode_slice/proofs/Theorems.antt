-- The answers of the readers are exact ("Turned back for the input").
use mathlib.Core.Path.{◌≡◌, refl}
use mathlib.Core.Logic.{◌↔◌}
use mathlib.Core.List.{List, [], ◌∷◌}
use Prim.Native.Nat.{ℕ, suc}
use lib.ListN.{length, get_or}
use mir.Syntax.{w8}
use mir.Val.{Fits}
use Rattle.meaning.specs.Bytes.WellFormed.{Bytes}
use Rattle.meaning.specs.Bytes.Number.{Read, found, refused}
use Rattle.meaning.specs.Bytes.Reading.{read_model, read_formula}
use Rattle.meaning.proofs.Bytes.Reading.{models_read, formulas_read}
use Rattle.meaning.proofs.Bytes.Refusal.{models_refused, formulas_refused}
use Rattle.decode_number.specs.Answer as answers
use Rattle.decode_number.specs.Answer.{Answer, refusal_number, answer, extent}
use Rattle.decode_number.proofs.Theorems.{answers_fixed, never}
use Rattle.decode_slice.specs.Exact.{Exact, ModelAnswer, FormulaAnswer}
use Rattle.decode_slice.specs.Theorems.{ModelsExact, FormulasExact}

-- For any exact reader of slices whose refusals are exact.
module _ {A : Type 0} (s : List ℕ) (Is : A → Type 0) (Refuses : (number place : ℕ) → Type 0) where
  exact : (r : Read A) → ((x : A) → (Is x → r ≡ found x (length s)) × ((end : ℕ) → r ≡ found x end → Is x))
      → ((number place : ℕ) → (r ≡ refused number place) ↔ Refuses number place)
      → (a : Answer) → answer a ≡ extent r → Exact s Is Refuses a
  unfolding extent
  exact (found x end) reads refuses a e = record {
    ends = λ other. (
      λ f. let is = (reads x).1 end refl in let whole = (reads x).0 is in let same : other ≡ end = cc in (cc, (x, is)),
      λ f. let is = (reads x).1 end refl in let whole = (reads x).0 is in answers_fixed a (answers.ends other) (cc),
    );
    refuses = λ why place. (λ f. never (cc), λ t. let here = (refuses (refusal_number why) place).1 t in never (cc));
  }
  exact (refused number place) reads refuses a e = record {
    ends = λ end. (λ f. never (cc), λ f. let here = (reads f.1.0).0 f.1.1 in never (cc));
    refuses = λ why there. (
      λ f. (refuses (refusal_number why) there).0 (cc),
      λ t. let here = (refuses (refusal_number why) there).1 t in answers_fixed a (answers.refuses why there) (cc),
    );
  }

pub models_exact : ModelsExact
models_exact s bytes a e =
    exact s _ _ (read_model s) (λ P. ((models_read s P).0, (models_read s P).1 bytes)) (models_refused s) a e

pub formulas_exact : FormulasExact
formulas_exact s bytes a e =
    exact s _ _ (read_formula s) (λ F. ((formulas_read s F).0, (formulas_read s F).1 bytes)) (formulas_refused s) a e

-- A slice of the code has bytes for its entries, so answers on it are exact.
pub bytes_of : (s : List ℕ) → ((i : ℕ) → Fits w8 (get_or s i 0)) → Bytes s
bytes_of [] h = tt
bytes_of (b ∷ s) h = ((h 0).fits, bytes_of s (λ i. h (suc i)))

module _ (s : List ℕ) (h : (i : ℕ) → Fits w8 (get_or s i 0)) (a : Answer) where
  pub model_exact : answer a ≡ extent (read_model s) → ModelAnswer s a
  model_exact = models_exact s (bytes_of s h) a

  pub formula_exact : answer a ≡ extent (read_formula s) → FormulaAnswer s a
  formula_exact = formulas_exact s (bytes_of s h) a
