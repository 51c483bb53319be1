-- The place of a refusal is at most 4,096 ("Turned back for the input").
use mathlib.Core.Path.{◌≡◌}
use mathlib.Core.Bool.{◌&&◌}
use mathlib.Core.List.{List, [], ◌∷◌}
use Prim.Native.Nat.{ℕ, ◌+◌, ◌-◌, ◌*◌, ◌≤◌}
use native.Mathlib.Omega.{arith}
use lib.Dec.{leb, ltb}
use lib.ListN.{length, drop, length-drop}
use Rattle.meaning.specs.Bytes.Number.{found, first_byte_of, second_byte, number}
use Rattle.meaning.specs.Bytes.Refusal.{Field, Due, start, named, indexed, in_term, in_process, in_formula}
use Rattle.meaning.specs.Bytes.Refusal.{Refusal as RefusedBy, slice_too_long, ended_early, bad_form, unlisted_kind}
use Rattle.meaning.specs.Bytes.Refusal.{name_over, out_of_scope, too_deep, left_over}
use Rattle.meaning.proofs.Bytes.Reader.{Only, holds, fails, by_provided, by_test, of_found}
use Rattle.decode_number.specs.Answer.{Answer}
use Rattle.decode_slice.specs.Exact.{Exact}
use Rattle.verdict_input.specs.Input.{Placed}

-- A number ends within the bytes that are left.
second_within : (size at b : ℕ) (rest : List ℕ) → Only (λ n end. end ≤ at + length (b ∷ rest)) (second_byte size at b rest)
unfolding second_byte
second_within size at b [] = fails tt
second_within size at b (c ∷ rest) =
    by_provided (leb 1 c && leb c 127) 3 at (b - 128 + 128 * c) (at + 2) (λ t. omega arith) (λ t. tt)

first_within : (size at : ℕ) (rest : List ℕ) → Only (λ n end. end ≤ at + length rest) (first_byte_of size at rest)
unfolding first_byte_of
first_within size at [] = fails tt
first_within size at (b ∷ rest) =
    by_test (Only (λ n end. end ≤ at + length (b ∷ rest))) (ltb b 128) (λ t. holds (omega arith)) (λ t. second_within size at b rest)

number_within : (s : List ℕ) (at : ℕ) {n end : ℕ} → at ≤ length s → number s at ≡ found n end → end ≤ length s
unfolding number
number_within s at h e = omega (arith, of_found (first_within (length s) at (drop at s)) e, length-drop at s)

module _ {s : List ℕ} {root : Field} where
  -- What is due stands within the slice.
  short : {p : ℕ} {fs : List Field} → Due s root p fs → length s ≤ 4096
  short (start h) = h
  short (named d e h) = short d
  short (indexed d e h) = short d
  short (in_term d e h) = short d
  short (in_process d e h b) = short d
  short (in_formula d e h b) = short d

  due_within : {p : ℕ} {fs : List Field} → Due s root p fs → p ≤ length s
  due_within (start h) = omega arith
  due_within (named {p = p} d e h) = number_within s p (due_within d) e
  due_within (indexed {p = p} d e h) = number_within s p (due_within d) e
  due_within (in_term {p = p} d e h) = number_within s p (due_within d) e
  due_within (in_process {p = p} d e h b) = number_within s p (due_within d) e
  due_within (in_formula {p = p} d e h b) = number_within s p (due_within d) e

  due_below : {p : ℕ} {fs : List Field} → Due s root p fs → p ≤ 4096
  due_below d = omega (arith, due_within d, short d)

  place_below : {number place : ℕ} → RefusedBy s root number place → place ≤ 4096
  place_below (slice_too_long h) = omega arith
  place_below (ended_early d h) = short d
  place_below (bad_form d h) = due_below d
  place_below (unlisted_kind d e h) = due_below d
  place_below (name_over d e h) = due_below d
  place_below (out_of_scope d e h) = due_below d
  place_below (too_deep d e h) = due_below d
  place_below (left_over d h) = due_below d

  -- So it is in an answer on a slice.
  pub placed : {A : Type 0} {Is : A → Type 0} {a : Answer} → Exact s Is (RefusedBy s root) a → Placed a
  placed exact = record { below = λ why place e. place_below ((exact.refuses why place).0 e) }
