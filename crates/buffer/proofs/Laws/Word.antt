-- A number in two bytes, read where it stands.
use mathlib.Core.Path.{◌≡◌}
use mathlib.Core.List.{List, [], ◌∷◌}
use Prim.Native.Nat.{ℕ, ◌+◌, ◌*◌, ◌/◌, ◌%◌}
use native.Mathlib.Omega.{arith}
use Rattle.meaning.specs.Bytes.Standing.{Stands}
use Rattle.meaning.proofs.Bytes.Reading.Place.{parts}
use Rattle.decode_layout.proofs.Laws.Standing.{first_byte}
use Rattle.buffer.specs.Word.{encode_word, number_at}

-- It is read back from its two bytes.
pub number_read : (v : ℕ) → v % 256 + 256 * (v / 256) ≡ v
number_read v = omega arith

-- So it is where it stands.
pub word_number : {s : List ℕ} {at end : ℕ} (v : ℕ) → Stands s at (encode_word v) end → number_at s at ≡ v
unfolding encode_word
word_number v p =
    let (mid, low, high) = parts (v % 256 ∷ []) ((v / 256 ∷ []) ∷ []) p in
    let next : mid ≡ _ + 1 = low.size in
    rw (← first_byte low, ← next, ← first_byte high) (number_read v)

pub word_end : {s : List ℕ} {at end : ℕ} (v : ℕ) → Stands s at (encode_word v) end → end ≡ at + 2
unfolding encode_word
word_end v p = p.size
