-- A number in two bytes, the lower one first, as it stands in lent bytes.
use Rattle.std.specs.Prelude.{List, [], ◌∷◌, ℕ, ◌+◌, ◌*◌, ◌/◌, ◌%◌, get_or}

unfoldable pub encode_word : ℕ → List ℕ
encode_word v = v % 256 ∷ v / 256 ∷ []

-- The number that stands at a position.
abbrev pub number_at : List ℕ → ℕ → ℕ
number_at m at = get_or m at 0 + 256 * get_or m (at + 1) 0
