-- Reading is exact ("Bytes"; "Turned back for the input"): it succeeds on the well-formed slices and on no others, and gives the
-- tree that the slice encodes.
use mathlib.Core.Path.{◌≡◌, ◌∙◌}
use mathlib.Core.List.{List}
use Prim.Native.Nat.{ℕ, ◌≤◌}
use native.Mathlib.Omega.{arith}
use lib.Dec.{leb, ltb, leb→le, le→leb, nltb→le}
use lib.ListN.{length}
use Rattle.meaning.specs.Bytes.Number.{Read, found, and_then}
use Rattle.meaning.specs.Bytes.Reading.{whole, read_model, read_formula}
use Rattle.meaning.specs.Theorems.{ModelsRead, FormulasRead}
use Place.{whole-stands, stands-whole}
use Rattle.meaning.proofs.Bytes.Reader.{Only, fails, of_found, and-then, by_provided, provided_found, by_test, above}
use Process.{process-sound, process-complete}
use Formula.{formula-sound, formula-complete}
pub mod Place
pub mod Number
pub mod Kind
pub mod Term
pub mod Process
pub mod Formula

-- Of a whole slice: what the reader finds goes to its end, and what goes to its end is found.
whole_sound : {A : Type 0} (s : List ℕ) (reader : ℕ → Read A) {P : A → ℕ → Type 0} → Only P (reader 0)
    → Only (λ a end. (length s ≤ 4096) × (length s ≤ end) × P a end) (whole reader s)
unfolding whole
whole_sound s reader {P} o =
    by_test (Only (λ a end. (length s ≤ 4096) × (length s ≤ end) × P a end)) (ltb 4096 (length s)) (λ t. fails tt) λ t.
    and-then o λ a end p. by_provided (leb (length s) end) _ _ _ _
    (λ u. (nltb→le 4096 (length s) t, leb→le (length s) end u, p)) (λ u. tt)

whole_complete : {A : Type 0} (s : List ℕ) (reader : ℕ → Read A) {a : A} → length s ≤ 4096 → reader 0 ≡ found a (length s)
    → whole reader s ≡ found a (length s)
unfolding whole and_then
whole_complete s reader {a} h e =
    above 4096 (length s) _ _ h ∙ rw e (provided_found (leb (length s) (length s)) _ _ _ _ (omega (arith, le→leb)))

pub models_read : ModelsRead
unfolding read_model
models_read s P = (
  λ m. whole_complete s _ m.short (process-complete 64 0 P (rw m.encoded (whole-stands s), m.scoped, omega arith)),
  λ bytes end e.
      let (short, full, (stands, scoped, limits)) = of_found (whole_sound s _ (process-sound bytes 64 0 0 (omega arith))) e in
      record {
        encoded = stands-whole stands full;
        short = short;
        scoped = scoped;
        terms = limits.0;
        nodes = limits.1;
        bound = omega arith;
      },
)

pub formulas_read : FormulasRead
unfolding read_formula
formulas_read s F = (
  λ m.
      whole_complete s _ m.short
      (formula-complete 48 16 0 (omega arith) F (rw m.encoded (whole-stands s), m.scoped, omega arith)),
  λ bytes end e.
      let (short, full, (stands, scoped, limits)) = of_found (whole_sound s _ (formula-sound bytes 48 16 0 0)) e in
      record {
        encoded = stands-whole stands full;
        short = short;
        scoped = scoped;
        terms = limits.0;
        nodes = limits.1;
        steps = limits.2;
      },
)
