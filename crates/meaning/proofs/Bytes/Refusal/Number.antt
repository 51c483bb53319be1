-- Numbers are refused truly: 2 and 3 ("Turned back for the input").
use Prim.Native.Nat.{ℕ, zero, suc, ◌≤◌}
use mathlib.Core.Path.{◌≡◌}
use mathlib.Core.Bool.{not, ◌&&◌}
use mathlib.Core.List.{List, [], ◌∷◌}
use lib.Dec.{T, leb, ltb, leb-zero, leb-suc-suc, nleb→lt, nltb→le}
use lib.ListN.{length, drop}
use Rattle.meaning.specs.Bytes.Number.{Read, number, first_byte_of, second_byte}
use Rattle.meaning.specs.Bytes.Refusal.{Field, Due, Refusal, ended_early, bad_form}
use Rattle.meaning.specs.Bytes.Refusal.{EndsEarly, no_byte, one_byte, Malformed, second_zero, second_over}
use Rattle.meaning.proofs.Bytes.Reader.{holds, fails, by_provided, by_test, as_found}
use Rattle.meaning.proofs.Bytes.Refusal.Sound.{Sound}

-- A second byte that fails the test is 0 or over 127.
malformed : {b : ℕ} (c : ℕ) {rest : List ℕ} → 128 ≤ b → T (not (leb 1 c && leb c 127)) → Malformed (b ∷ c ∷ rest)
malformed zero h t = second_zero h
malformed (suc c) h t = second_over h (nleb→lt (suc c) 127 (rw (leb-suc-suc 0 c, leb-zero c) at t))

-- A number is read, or its bytes end early, or they are malformed.
pub number_sound : {s : List ℕ} {root f : Field} {fs : List Field} {at : ℕ} → Due s root at (f ∷ fs)
    → Sound s root (λ n end. number s at ≡ Read.found n end) (number s at)
unfolding number first_byte_of second_byte
number_sound {s} {root} {at} d = as_found (first (drop at s) (ended_early d) (bad_form d))
  where
    second : (b : ℕ) (l : List ℕ) → 128 ≤ b → (EndsEarly (b ∷ l) → Refusal s root 2 (length s))
        → (Malformed (b ∷ l) → Refusal s root 3 at) → Sound s root (λ n end. Unit {0}) (second_byte (length s) at b l)
    second b [] h early bad = fails (early (one_byte h))
    second b (c ∷ rest) h early bad =
        by_provided (leb 1 c && leb c 127) _ _ _ _ (λ t. tt) (λ t. bad (malformed c h t))

    first : (l : List ℕ) → (EndsEarly l → Refusal s root 2 (length s)) → (Malformed l → Refusal s root 3 at)
        → Sound s root (λ n end. Unit {0}) (first_byte_of (length s) at l)
    first [] early bad = fails (early no_byte)
    first (b ∷ rest) early bad =
        by_test (Sound s root (λ n end. Unit {0})) (ltb b 128) (λ t. holds tt) (λ t. second b rest (nltb→le b 128 t) early bad)
