-- Numbers ("Bytes", first paragraph): what is read stands there (sound), and what stands there is read (complete).
use mathlib.Core.Path.{◌≡◌, refl, ap, ◌∙◌}
use mathlib.Core.Bool.{◌&&◌}
use mathlib.Core.List.{List, [], ◌∷◌, ◌++◌}
use Prim.Native.Nat.{ℕ, zero, suc, ◌+◌, ◌-◌, ◌*◌, ◌/◌, ◌%◌, ◌≤◌, ◌<◌}
use native.Mathlib.Omega.{arith}
use lib.Dec.{leb, ltb, leb→le, le→leb, ltb→lt, nltb→le}
use lib.ListN.{length, drop}
use mir.Facts.{and_yes, yes_and}
use Rattle.meaning.specs.Bytes.Encoding.{encode_number}
use Rattle.meaning.specs.Bytes.Number.{found, first_byte_of, second_byte, number}
use Rattle.meaning.specs.Bytes.WellFormed.{Bytes}
use Rattle.meaning.specs.Bytes.Standing.{Stands}
use Rattle.meaning.proofs.Bytes.Reading.Place.{stands}
use Rattle.meaning.proofs.Bytes.Reader.{Only, holds, fails, by_provided, provided_found, by_test, below, above}

-- Numbers of one byte and of two.
pub encode_short : (n : ℕ) → n < 128 → encode_number n ≡ n ∷ []
unfolding encode_number
encode_short n h = below n 128 _ _ h

encode_long : (n : ℕ) → 128 ≤ n → encode_number n ≡ (128 + n % 128) ∷ (n / 128) ∷ []
unfolding encode_number
encode_long n h = above n 128 _ _ h

bytes_drop : (s : List ℕ) (at : ℕ) → Bytes s → Bytes (drop at s)
bytes_drop [] zero b = b
bytes_drop [] (suc at) b = b
bytes_drop (x ∷ s) zero b = b
bytes_drop (x ∷ s) (suc at) b = bytes_drop s at b.1

-- The bytes of the number n stand there, and it is below 16,384: two bytes hold it.
abbrev NumberAt : List ℕ → (at n end : ℕ) → Type 0
NumberAt s at n end = Stands s at (encode_number n) end × (n < 16384)

second_sound : (s : List ℕ) (at b : ℕ) (rest : List ℕ) → drop at s ≡ b ∷ rest → 128 ≤ b → b < 256
    → Only (NumberAt s at) (second_byte (length s) at b rest)
unfolding second_byte
second_sound s at b [] e l h = fails tt
second_sound s at b (c ∷ rest) e l h =
    by_provided (leb 1 c && leb c 127) 3 at (b - 128 + 128 * c) (at + 2) (λ t.
    let low = leb→le 1 c (and_yes (leb 1 c) (leb c 127) t).0 in
    let high = leb→le c 127 (and_yes (leb 1 c) (leb c 127) t).1 in
    let first : 128 + (b - 128 + 128 * c) % 128 ≡ b = omega arith in
    let second : (b - 128 + 128 * c) / 128 ≡ c = omega arith in
    (rw (encode_long (b - 128 + 128 * c) (omega arith), first, second) (stands s at (b ∷ c ∷ []) rest e), omega arith)) (λ t. tt)

first_sound : (s : List ℕ) (at : ℕ) (rest : List ℕ) → drop at s ≡ rest → Bytes rest
    → Only (NumberAt s at) (first_byte_of (length s) at rest)
unfolding first_byte_of
first_sound s at [] e h = fails tt
first_sound s at (b ∷ rest) e h =
    by_test (Only (NumberAt s at)) (ltb b 128)
    (λ t. holds (rw (encode_short b (ltb→lt b 128 t)) (stands s at (b ∷ []) rest e), omega (arith, ltb→lt b 128 t)))
    (λ t. second_sound s at b rest e (nltb→le b 128 t) h.0)

pub number_sound : {s : List ℕ} → Bytes s → (at : ℕ) → Only (NumberAt s at) (number s at)
unfolding number
number_sound {s} h at = first_sound s at (drop at s) refl (bytes_drop s at h)

-- The bytes of a number are read back as it.
read_back : (size at n : ℕ) (rest : List ℕ) → n < 16384
    → first_byte_of size at (encode_number n ++ rest) ≡ found n (at + length (encode_number n))
unfolding encode_number first_byte_of second_byte
read_back size at n rest h =
    by_test (λ bs. first_byte_of size at (bs ++ rest) ≡ found n (at + length bs)) (ltb n 128)
    (λ t. below n 128 _ _ (ltb→lt n 128 t))
    (λ t. above (128 + n % 128) 128 _ _ (omega arith) ∙ second (nltb→le n 128 t))
  where
    second : 128 ≤ n → second_byte size at (128 + n % 128) ((n / 128) ∷ rest) ≡ found n (at + 2)
    second l =
        provided_found (leb 1 (n / 128) && leb (n / 128) 127) _ _ _ _
        (yes_and (leb 1 (n / 128)) (leb (n / 128) 127) (omega (arith, le→leb)) (omega (arith, le→leb)))
        ∙ ap (λ m. found m (at + 2)) (omega arith)

-- A number of at most two bytes is found.
pub number_complete : {s : List ℕ} {at end : ℕ} (n : ℕ) → n < 16384
    → Stands s at (encode_number n) end → number s at ≡ found n end
unfolding number
number_complete {s} {at} {end} n h p = rw (p.bytes, read_back (length s) at n (drop end s) h, p.size)
