-- A number's value and end by the bytes that are there, and when it is in the one form ("Bytes", first paragraph).
use mathlib.Core.Path.{◌≡◌, sym, ap, ◌∙◌}
use mathlib.Core.Bool.{Bool, true, false, ◌&&◌}
use mathlib.Core.List.{List}
use Prim.Native.Nat.{ℕ, ◌+◌, ◌-◌, ◌*◌, ◌/◌, ◌%◌, ◌≤◌, ◌<◌}
use native.Mathlib.Nat.{mul-le-mul_right}
use native.Mathlib.Omega.{arith}
use borrow.Author.Tests.{lt-ltb, le-ltb, le-leb, lt-leb}
use mir.Syntax.{w64}
use mir.Val.{Fits}
use lib.Dec.{T, leb, ltb, leb→le, ltb→lt, nltb→le}
use lib.ListN.{length, get_or, get_or-eq_default}
use Rattle.meaning.specs.Bytes.Number.{found, refused, and_then, provided, number}
use Rattle.meaning.proofs.Bytes.Reader.{by_test, below, above}
use Rattle.decode_number.specs.Decoding.{decode, decoded_value, decoded_end, canonical}
use Rattle.decode_number.proofs.Laws.Number.{nothing_there, one_byte, no_second, second_zero, second_large, two_bytes}

-- Whichever of two numbers is the smaller.
pub by_order : {P : Type 0} (m n : ℕ) → (m < n → P) → (n ≤ m → P) → P
by_order {P} m n p q =
    by_test {A = Unit {0}} (λ u. P) (ltb m n) {x = tt} {y = tt} (λ t. p (ltb→lt m n t)) (λ t. q (nltb→le m n t))

-- The value of two bytes, by the first one's top bit.
decode_one : (b c : ℕ) → b < 128 → decode b c ≡ b
decode_one b c h = let top : b / 128 ≡ 0 = omega arith in rw top (omega arith)

decode_two : (b c : ℕ) → 128 ≤ b → b < 256 → decode b c ≡ b - 128 + 128 * c
decode_two b c l h = let top : b / 128 ≡ 1 = omega arith in rw top (omega arith)

-- A byte's top bit is at most 1, so nothing here is large.
module _ (k b c : ℕ) (few : T (leb k 256)) where
  at_most_once : b < 256 → k * c * (b / 128) ≤ k * c
  at_most_once h = by_order b 128
      (λ m. let top : b / 128 ≡ 0 = omega arith in rw top (omega arith))
      (λ m. let top : b / 128 ≡ 1 = omega arith in rw top (omega arith))

  small : b < 256 → c < 256 → k * c * (b / 128) < 65536
  small h l = omega (arith, at_most_once h, mul-le-mul_right c (leb→le k 256 few))

  pub product_fits : b < 256 → c < 256 → Fits w64 (k * c * (b / 128))
  product_fits h l = omega (arith, small h l)

  pub sum_fits : b < 256 → c < 256 → (a : ℕ) → Fits w64 (a % 128 + k * c * (b / 128))
  sum_fits h l a = omega (arith, small h l)

module _ (s : List ℕ) (at value end : ℕ) where
  -- A number with this value and end is cut short, not in the one form, or in it.
  without_end : end ≤ at → refused 2 (length s) ≡ canonical s at value end
  unfolding canonical and_then
  without_end h = rw (le-ltb at end h)

  too_large : at < end → 16384 ≤ value → refused 3 at ≡ canonical s at value end
  unfolding canonical and_then
  too_large h l = rw (lt-ltb at end h, le-ltb value 16384 l)

  too_small : at < end → value < 16384 → value / 128 < end - at - 1 → refused 3 at ≡ canonical s at value end
  unfolding canonical and_then
  too_small h l m = rw (lt-ltb at end h, lt-ltb value 16384 l, lt-leb (end - at - 1) (value / 128) m)

  formed : at < end → value < 16384 → end - at - 1 ≤ value / 128 → found value end ≡ canonical s at value end
  unfolding canonical and_then
  formed h l m = rw (lt-ltb at end h, lt-ltb value 16384 l, le-leb (end - at - 1) (value / 128) m)

module _ (s : List ℕ) (at : ℕ) where
  -- No byte is there.
  module _ (h : length s ≤ at) where
    none : get_or s at 0 ≡ 0
    none = get_or-eq_default s 0 h

    pub none_value : 0 ≡ decoded_value s at
    unfolding decoded_value
    none_value = rw none (sym (decode_one 0 (get_or s (at + 1) 0) (omega arith)))

    pub none_end : at ≡ decoded_end s at
    unfolding decoded_end
    none_end = sym (above (at + get_or s at 0 / 128) (length s) _ _ (omega arith))

    pub none_form : number s at ≡ canonical s at 0 at
    none_form = sym (nothing_there s at h) ∙ without_end s at 0 at (omega arith)

  module _ {b : ℕ} (e : b ≡ get_or s at 0) where
    -- The last byte does for the second.
    pub last_value : {c v : ℕ} → b < 256 → c ≡ get_or s (at + b / 128) 0 → v ≡ decode b c → v ≡ decoded_value s at
    unfolding decoded_value
    last_value {c} h f g = g ∙ rw (← e) (by_order b 128
        (λ m. decode_one b c m ∙ sym (decode_one b (get_or s (at + 1) 0) m))
        (λ m. let top : b / 128 ≡ 1 = omega arith in ap (decode b) (rw top at f)))

    -- It is missing.
    module _ (l : length s ≤ at + b / 128) where
      pub missing_value : {v : ℕ} → b < 256 → v ≡ decode b 0 → v ≡ decoded_value s at
      missing_value h = last_value h (sym (get_or-eq_default s 0 l))

      pub missing_end : at ≡ decoded_end s at
      unfolding decoded_end
      missing_end = sym (above (at + get_or s at 0 / 128) (length s) _ _ (rw (← e) l))

      pub missing_form : (v : ℕ) → at < length s → b < 256 → number s at ≡ canonical s at v at
      missing_form v h m = sym (no_second s at h e (omega arith) (omega arith)) ∙ without_end s at v at (omega arith)

    -- All its bytes are there.
    pub there_end : at + b / 128 < length s → at + b / 128 + 1 ≡ decoded_end s at
    unfolding decoded_end
    there_end l = ap (λ n. at + n / 128 + 1) e ∙ sym (below (at + get_or s at 0 / 128) (length s) _ _ (rw (← e) l))

    module _ {c : ℕ} (l : at + b / 128 < length s) (f : c ≡ get_or s (at + b / 128) 0) where
      one_form : b < 128 → number s at ≡ canonical s at (decode b c) (at + b / 128 + 1)
      one_form m =
          let top : b / 128 ≡ 0 = omega arith in
          let same : at + 0 + 1 ≡ at + 1 = omega arith in
          rw (decode_one b c m, top, same) (sym (one_byte s at (omega arith) e m) ∙ formed s at b (at + 1) (omega arith) (omega arith) (omega arith))

      two_form : 128 ≤ b → b < 256 → number s at ≡ canonical s at (decode b c) (at + b / 128 + 1)
      two_form m h =
          let top : b / 128 ≡ 1 = omega arith in
          rw (decode_two b c m h, top) (by_order c 1
          (λ z. sym (second_zero s at (omega arith) e m (omega arith) (rw top at f) (omega arith))
          ∙ too_small s at (b - 128 + 128 * c) (at + 1 + 1) (omega arith) (omega arith) (omega arith))
          (λ z. by_order 127 c
          (λ x. sym (second_large s at (omega arith) e m (omega arith) (rw top at f) x)
          ∙ too_large s at (b - 128 + 128 * c) (at + 1 + 1) (omega arith) (omega arith))
          (λ x. sym (two_bytes s at (omega arith) e m (omega arith) (rw top at f) (λ y. omega arith) x)
          ∙ formed s at (b - 128 + 128 * c) (at + 1 + 1) (omega arith) (omega arith) (omega arith))))

      pub there_form : {v : ℕ} → v ≡ decode b c → b < 256 → number s at ≡ canonical s at v (at + b / 128 + 1)
      there_form g h = rw g (by_order b 128 one_form (λ m. two_form m h))

-- It does not end before its position.
pub end_after : (s : List ℕ) (at : ℕ) {end : ℕ} → end ≡ decoded_end s at → at ≤ end
unfolding decoded_end
end_after s at e = rw e (by_test (λ n. at ≤ n) (ltb (at + get_or s at 0 / 128) (length s)) (λ t. omega arith) (λ t. omega arith))

-- The number that is read, by its value and end.
module _ (s : List ℕ) (at value end : ℕ) (e : number s at ≡ canonical s at value end) where
  pub reads_none : end ≤ at → refused 2 (length s) ≡ number s at
  reads_none h = without_end s at value end h ∙ sym e

  pub reads_large : (k : ℕ) → T (leb 16384 k) → at < end → k ≤ value → refused 3 at ≡ number s at
  reads_large k t h l = too_large s at value end h (omega (arith, leb→le 16384 k t)) ∙ sym e

  pub reads_small : at < end → value < 16384 → value / 128 < end - at - 1 → refused 3 at ≡ number s at
  reads_small h l m = too_small s at value end h l m ∙ sym e

  pub reads : at < end → value < 16384 → end - at - 1 ≤ value / 128 → found value end ≡ number s at
  reads h l m = formed s at value end h l m ∙ sym e

-- What is in the one form has this value and end.
module _ (number place : ℕ) {value end v e : ℕ} where
  if_provided : (test : Bool) → provided test number place value end ≡ found v e → (value ≡ v) × (end ≡ e)
  if_provided true h = (cc, cc)
  if_provided false h = let z : ◌≡◌ {A = ℕ} 0 1 = cc in absurd (omega arith)

only_so : (s : List ℕ) (at value end : ℕ) {v e : ℕ} (test : Bool) → and_then (provided test 2 (length s) value end)
    (λ value end. provided (ltb value 16384 && leb (end - at - 1) (value / 128)) 3 at value end) ≡ found v e → (value ≡ v) × (end ≡ e)
unfolding and_then
only_so s at value end true h = if_provided 3 at (ltb value 16384 && leb (end - at - 1) (value / 128)) h
only_so s at value end false h = let z : ◌≡◌ {A = ℕ} 0 1 = cc in absurd (omega arith)

pub decoded_so : (s : List ℕ) (at value end : ℕ) {v e : ℕ} → number s at ≡ canonical s at value end → number s at ≡ found v e
    → (value ≡ v) × (end ≡ e)
unfolding canonical
decoded_so s at value end f g = only_so s at value end (ltb at end) (sym f ∙ g)

pub ruleset decodings = (
  product_fits,
  sum_fits,
  none_value,
  none_end,
  none_form,
  missing_value,
  missing_end,
  missing_form,
  last_value,
  there_end,
  there_form,
)

pub ruleset readings = (reads_none, reads_large, reads_small, reads)
