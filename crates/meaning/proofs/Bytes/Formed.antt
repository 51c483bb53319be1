-- Slices that no rule refuses are the well-formed ones ("Turned back for the input", last paragraph).
use mathlib.Core.Path.{◌≡◌, refl}
use mathlib.Core.Logic.{◌↔◌}
use Prim.Native.Nat.{ℕ}
use native.Mathlib.Omega.{arith}
use lib.ListN.{length}
use Rattle.meaning.specs.Bytes.Number.{Read, found, refused}
use Rattle.meaning.specs.Bytes.Reading.{read_model, read_formula}
use Rattle.meaning.specs.Theorems.{ModelsFormed, FormulasFormed}
use Rattle.meaning.proofs.Bytes.Reading.{models_read, formulas_read}
use Rattle.meaning.proofs.Bytes.Refusal.{models_refused, formulas_refused}

-- For any exact reader of slices whose refusals are exact.
formed : {A : Type 0} {Is : A → Type 0} {Refused : ℕ → ℕ → Type 0} (r : Read A) (size : ℕ)
    → ((a : A) → (Is a → r ≡ found a size) × ((end : ℕ) → r ≡ found a end → Is a))
    → ((number place : ℕ) → (r ≡ refused number place) ↔ Refused number place)
    → ((a : A) × Is a) ↔ ((number place : ℕ) → ¬ (Refused number place))
formed {A} {Is} {Refused} r size exact refusals = (
  λ f number place h.
      let found_Here = (exact f.0).0 f.1 in
      let refused-here = (refusals number place).1 h in
      let z : ◌≡◌ {A = ℕ} 0 1 = cc in omega arith,
  λ none. read r refl none,
)
  where
    read : (x : Read A) → r ≡ x → ((number place : ℕ) → ¬ (Refused number place)) → (a : A) × Is a
    read (found a end) e none = (a, (exact a).1 end e)
    read (refused number place) e none = absurd (none number place ((refusals number place).0 e))

pub models_formed : ModelsFormed
models_formed s bytes =
    formed (read_model s) (length s) (λ P. ((models_read s P).0, (models_read s P).1 bytes)) (models_refused s)

pub formulas_formed : FormulasFormed
formulas_formed s bytes =
    formed (read_formula s) (length s) (λ F. ((formulas_read s F).0, (formulas_read s F).1 bytes)) (formulas_refused s)
