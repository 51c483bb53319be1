-- Where trees end that stand at a position of a slice: terms, and numbers in them ("Bytes").
use Rattle.std.specs.Prelude.{◌≡◌, List, [], ◌∷◌, ◌++◌, ℕ, length}
use Rattle.meaning.specs.Bytes.Encoding.{encode_number, encode_term}
use Rattle.meaning.specs.Bytes.Standing.{Stands}

-- The bytes of each, one after the other.
abbrev pub row : {A : Type 0} → (A → List ℕ) → List A → List ℕ
row encode [] = []
row encode (a ∷ rest) = encode a ++ row encode rest

-- So many stand in a row from the position at to the position end.
pub record InRow {A : Type 0} (encode : A → List ℕ) (s : List ℕ) (at count end : ℕ) : Type 0 where
  pub trees : List A
  pub many : length trees ≡ count
  pub there : Stands s at (row encode trees) end

-- If one stands at the position at, or so many in a row, then it or they end at r. If none does, nothing is said of r.
pub record EndOf {A : Type 0} (encode : A → List ℕ) (s : List ℕ) (at r : ℕ) : Type 0 where
  pub same : (a : A) {end : ℕ} → Stands s at (encode a) end → r ≡ end

pub record RowEnd {A : Type 0} (encode : A → List ℕ) (s : List ℕ) (at count r : ℕ) : Type 0 where
  pub same : {end : ℕ} → InRow encode s at count end → r ≡ end

abbrev pub TermEnd : List ℕ → (at r : ℕ) → Type 0
TermEnd = EndOf encode_term

abbrev pub TermsEnd : List ℕ → (at count r : ℕ) → Type 0
TermsEnd = RowEnd encode_term

abbrev pub NumbersEnd : List ℕ → (at count r : ℕ) → Type 0
NumbersEnd = RowEnd encode_number
