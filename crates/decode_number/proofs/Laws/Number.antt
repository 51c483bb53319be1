-- Reading a number at a position, by what its bytes are ("Bytes", first paragraph; 2 and 3).
use mathlib.Core.Path.{◌≡◌, sym, ◌∙◌}
use mathlib.Core.List.{List, ◌∷◌}
use Prim.Native.Nat.{ℕ, suc, ◌+◌, ◌-◌, ◌*◌, ◌≤◌, ◌<◌}
use native.Mathlib.Numerals.{add-one}
use native.Mathlib.Omega.{arith}
use borrow.Author.Tests.{le-leb, lt-leb}
use lib.ListN.{length, get_or, drop, drop_of_length-le}
use lib.Seq.{drop-cons}
use Rattle.meaning.specs.Bytes.Number.{found, refused, first_byte_of, second_byte, number}
use Rattle.meaning.proofs.Bytes.Reader.{below, above}

module _ (s : List ℕ) (at : ℕ) where
  -- No byte, or one.
  pub nothing_there : length s ≤ at → refused 2 (length s) ≡ number s at
  unfolding number first_byte_of
  nothing_there h = rw (drop_of_length-le s h)

  pub one_byte : {b : ℕ} → at < length s → b ≡ get_or s at 0 → b < 128 → found b (at + 1) ≡ number s at
  unfolding number first_byte_of
  one_byte {b} h e l = rw (drop-cons s at 0 h, ← e) (sym (below b 128 _ _ l))

  -- Where another byte has to follow the first.
  module _ {b : ℕ} (h : at < length s) (e : b ≡ get_or s at 0) (l : 128 ≤ b) where
    after_first : number s at ≡ second_byte (length s) at b (drop (at + 1) s)
    unfolding number first_byte_of
    after_first = rw (drop-cons s at 0 h, ← e, add-one) (above b 128 _ _ l)

    pub no_second : length s ≤ at + 1 → refused 2 (length s) ≡ number s at
    unfolding second_byte
    no_second n = rw (after_first, drop_of_length-le s n)

    module _ {c : ℕ} (n : at + 1 < length s) (f : c ≡ get_or s (at + 1) 0) where
      both : number s at ≡ second_byte (length s) at b (c ∷ drop (suc (at + 1)) s)
      both = after_first ∙ rw (drop-cons s (at + 1) 0 n, ← f)

      pub second_zero : c ≡ 0 → refused 3 at ≡ number s at
      unfolding second_byte
      second_zero z = rw (both, z)

      pub second_large : 127 < c → refused 3 at ≡ number s at
      unfolding second_byte
      second_large m = rw (both, le-leb 1 c (omega arith), lt-leb c 127 m)

      pub two_bytes : (c ≡ 0 → ⊥) → c ≤ 127 → found (b - 128 + 128 * c) (at + 1 + 1) ≡ number s at
      unfolding second_byte
      two_bytes z m =
          let same : at + 1 + 1 ≡ at + 2 = omega arith in
          rw (both, le-leb 1 c (omega arith), le-leb c 127 m, same)
