-- Kinds ("Bytes"), for any list of them: what is read stands there (sound), and what stands there is read (complete).
use mathlib.Core.Path.{◌≡◌, refl}
use mathlib.Core.Bool.{Bool}
use mathlib.Core.List.{List, [], ◌∷◌, map}
use mathlib.Core.Option.{Option, none, some}
use Prim.Native.Nat.{ℕ, zero, suc, ◌+◌, ◌≤◌, ◌<◌}
use native.Mathlib.Omega.{arith}
use lib.Dec.{T, lit≤}
use lib.ListN.{length, get_elem?}
use Rattle.meaning.specs.Messages.Term.{side_kind, binary_kind}
use Rattle.meaning.specs.Bytes.Encoding.{encode_number}
use Rattle.meaning.specs.Bytes.Number.{found, and_then}
use Rattle.meaning.specs.Bytes.Kind.{TermKind, term_kinds, ProcessKind, process_kinds, FormulaKind, formula_kinds}
use Rattle.meaning.specs.Bytes.Reading.{kind, listed}
use Rattle.meaning.specs.Bytes.WellFormed.{Bytes}
use Rattle.meaning.specs.Bytes.Standing.{Stands}
use Rattle.meaning.proofs.Bytes.Reader.{Only, holds, fails, and-then, by_provided, provided_found}
use Rattle.meaning.proofs.Bytes.Reading.Number.{encode_short, number_sound, number_complete}

-- The number of each kind.
abbrev pub term_code : TermKind → ℕ
term_code TermKind.name = 0
term_code TermKind.variable = 1
term_code (TermKind.proj side) = side_kind side
term_code (TermKind.binary b) = binary_kind b

abbrev pub process_code : ProcessKind → ℕ
process_code ProcessKind.nil = 0
process_code ProcessKind.new = 1
process_code ProcessKind.output = 2
process_code ProcessKind.input = 3
process_code ProcessKind.if = 4
process_code ProcessKind.let_in = 5
process_code ProcessKind.par = 6
process_code ProcessKind.repl = 7

abbrev pub formula_code : FormulaKind → ℕ
formula_code FormulaKind.equal = 0
formula_code FormulaKind.not = 1
formula_code FormulaKind.and = 2
formula_code FormulaKind.output = 3
formula_code FormulaKind.input = 4
formula_code FormulaKind.silent = 5

-- So many numbers from n on.
abbrev from : (n count : ℕ) → List ℕ
from n zero = []
from n (suc count) = n ∷ from (suc n) count

-- A list of kinds in the order of their numbers, each of which has one byte.
pub record Table {K : Type 0} (kinds : List K) (code : K → ℕ) : Type 0 where
  ordered : map code kinds ≡ from 0 (length kinds)
  few : length kinds ≤ 128

pub term_table : Table term_kinds term_code
term_table = record { ordered = refl; few = lit≤ tt }

pub process_table : Table process_kinds process_code
process_table = record { ordered = refl; few = lit≤ tt }

pub formula_table : Table formula_kinds formula_code
formula_table = record { ordered = refl; few = lit≤ tt }

-- The kind at a place of such a list has the place for its number.
numbered : {K : Type 0} {k : K} (code : K → ℕ) (m : ℕ) (kinds : List K) → map code kinds ≡ from m (length kinds)
    → (n : ℕ) → get_elem? kinds n ≡ some k → (code k ≡ m + n) × (n < length kinds)
numbered code m [] h n e = let z : ◌≡◌ {A = ℕ} 0 1 = cc in absurd (omega arith)
numbered {k} code m (j ∷ kinds) h zero e = let same : code k ≡ m = cc in omega arith
numbered code m (j ∷ kinds) h (suc n) e =
    let rest : map code kinds ≡ from (suc m) (length kinds) = cc in
    let i = numbered code (suc m) kinds rest n e in omega arith

module _ {K : Type 0} {kinds : List K} {code : K → ℕ} (table : Table kinds code) where
  listed_sound : {s : List ℕ} {at : ℕ} (n end : ℕ) → Stands s at (encode_number n) end
      → (entry : Option K) → get_elem? kinds n ≡ entry → Only (λ k end. Stands s at (code k ∷ []) end) (listed entry at end)
  listed_sound n end p none e = fails tt
  listed_sound n end p (some k) e =
      let i = numbered code 0 kinds table.ordered n e in
      let same : code k ≡ n = omega arith in
      holds (rw (encode_short n (omega arith), ← same) at p)

  pub kind_sound : (allowed : K → Bool) {s : List ℕ} → Bytes s → (at : ℕ)
      → Only (λ k end. Stands s at (code k ∷ []) end × T (allowed k)) (kind kinds allowed s at)
  unfolding kind
  kind_sound allowed b at =
      and-then (number_sound b at) λ n end p. and-then (listed_sound n end p.0 (get_elem? kinds n) refl) λ k end q.
      by_provided (allowed k) 7 at k end (λ t. (q, t)) (λ t. tt)

  pub kind_complete : (allowed : K → Bool) {s : List ℕ} {at end : ℕ} (k : K) → get_elem? kinds (code k) ≡ some k
      → T (allowed k) → Stands s at (code k ∷ []) end → kind kinds allowed s at ≡ found k end
  unfolding kind and_then
  kind_complete allowed {s} {at} {end} k e t p =
      let i = numbered code 0 kinds table.ordered (code k) e in
      rw (number_complete (code k) (omega arith) (rw (← encode_short (code k) (omega arith)) at p), e)
      (provided_found (allowed k) 7 at k end t)
