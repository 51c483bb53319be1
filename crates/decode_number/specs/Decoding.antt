-- A number's value and end by arithmetic, in whatever form, and when it is in the one form ("Bytes", first paragraph; 2 and 3).
use Rattle.std.specs.Prelude.{true, false, ◌&&◌, List, ℕ, ◌+◌, ◌-◌, ◌*◌, ◌/◌, ◌%◌, leb, ltb, length, get_or}
use Rattle.meaning.specs.Bytes.Number.{Read, and_then, provided}

-- The first byte's low seven bits, and 128 times the second byte times the first byte's top bit.
abbrev pub decode : (first second : ℕ) → ℕ
decode first second = first % 128 + 128 * second * (first / 128)

-- Past the end of the slice bytes count as 0.
unfoldable pub decoded_value : List ℕ → (at : ℕ) → ℕ
decoded_value s at = decode (get_or s at 0) (get_or s (at + 1) 0)

-- The last byte is the first, or the second if the first one's top bit is set.
abbrev pub last_place : List ℕ → (at : ℕ) → ℕ
last_place s at = at + get_or s at 0 / 128

-- The number ends behind its last byte; where that is missing, at its position.
unfoldable pub decoded_end : List ℕ → (at : ℕ) → ℕ
decoded_end s at = elim (ltb (last_place s at) (length s)) [ true ↦ last_place s at + 1 | false ↦ at ]

-- The number with this value and end: cut short if it ends at its position; not in the one form if two bytes cannot hold it, or if it has two
-- and one could.
unfoldable pub canonical : List ℕ → (at value end : ℕ) → Read ℕ
canonical s at value end =
    and_then (provided (ltb at end) 2 (length s) value end)
    (λ value end. provided (ltb value 16384 && leb (end - at - 1) (value / 128)) 3 at value end)
