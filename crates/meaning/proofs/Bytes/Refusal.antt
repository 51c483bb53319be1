-- Models and formulas are refused exactly as the rules say, by number and place ("Turned back for the input").
pub mod Sound
pub mod Number
pub mod Kind
pub mod Term
pub mod Process
pub mod Formula
pub mod Unique
use Prim.Native.Nat.{ℕ}
use mathlib.Core.Path.{◌≡◌}
use mathlib.Core.Logic.{◌↔◌}
use mathlib.Core.List.{List}
use lib.Dec.{leb, ltb, leb→le, ltb→lt, nltb→le, nleb→lt}
use lib.ListN.{length}
use Rattle.meaning.specs.Bytes.Number.{Read}
use Rattle.meaning.specs.Bytes.Reading.{whole, read_model, read_formula}
use Rattle.meaning.specs.Bytes.Refusal.{Field, start, Refusal, slice_too_long, left_over}
use Rattle.meaning.specs.Theorems.{ModelsRefused, FormulasRefused}
use Rattle.meaning.proofs.Bytes.Reader.{fails, by_provided, by_test, of_refused}
use Sound.{Ends, Reads, through}
use Process.{process-sound}
use Formula.{formula-sound}
use Unique.{as-refusal}

-- A whole slice, with 1 before any of its bytes and 8 after the last that is read.
whole_sound : {A : Type 0} (s : List ℕ) (root : Field) (reader : ℕ → Read A) → Reads s root root reader
    → Ends s root (whole reader s)
unfolding whole
whole_sound s root reader h =
    by_test (Ends s root) (ltb 4096 (length s)) (λ t. fails (slice_too_long (ltb→lt 4096 (length s) t))) (λ t.
    through h (start (nltb→le 4096 (length s) t)) (λ a end d. by_provided (leb (length s) end) _ _ _ _
    (λ t. (d, leb→le (length s) end t)) (λ t. left_over d (nleb→lt (length s) end t))))

-- What is refused is the one refusal that holds.
exactly : {s : List ℕ} {root : Field} {A : Type 0} {r : Read A} → Ends s root r → (number place : ℕ)
    → (r ≡ Read.refused number place) ↔ Refusal s root number place
exactly h number place = (of_refused h, as-refusal h)

pub models_refused : ModelsRefused
unfolding read_model
models_refused s = exactly (whole_sound s (Field.process 64 0) _ (process-sound 64 0))

pub formulas_refused : FormulasRefused
unfolding read_formula
formulas_refused s = exactly (whole_sound s (Field.formula 48 16 0) _ (formula-sound 48 16 0))
