-- A number with a limit, by the number that stands there ("Turned back for the input", 2 to 6).
use Rattle.std.specs.Prelude.{Ok, Err}
use mathlib.Core.Path.{◌≡◌}
use mathlib.Core.List.{List}
use Prim.Native.Nat.{ℕ, ◌+◌, ◌≤◌, ◌<◌}
use native.Mathlib.Omega.{arith}
use borrow.Author.Tests.{lt-ltb, le-ltb}
use lib.ListN.{length, get_or}
use Rattle.meaning.specs.Bytes.Number.{Read, found, refused, and_then, number}
use Rattle.decode_number.specs.Answer.{refusal_number, Numeral, numeral, Bounded, bounded, extent}
use Rattle.decode_number.specs.Bounded.{number_below}
use Rattle.decode_number.proofs.Laws.Number.{nothing_there, one_byte}
use Rattle.decode_number.specs.declared.answer.Refusal.{Refusal}
use Rattle.decode_number.specs.declared.answer.Refused.{Refused}
use Rattle.decode_number.specs.declared.number.Decoding.{Decoding}
use Rattle.decode_number.specs.declared.number.Fault.TheVariants.{Truncated, Malformed}

module _ (s : List ℕ) (at limit : ℕ) (why : Refusal) {r : Numeral} (e : numeral s at r ≡ number s at) where
  pub is_below : {n : Decoding} → r ≡ Ok n → n.value < limit → found n.value n.end ≡ number_below limit why s at
  unfolding number_below and_then
  is_below {n} f h = rw (← e, f, lt-ltb n.value limit h)

  pub is_above : {n : Decoding} → r ≡ Ok n → limit ≤ n.value → refused (refusal_number why) at ≡ number_below limit why s at
  unfolding number_below and_then
  is_above {n} f h = rw (← e, f, le-ltb n.value limit h)

  pub ends_early : r ≡ Err Truncated → refused 2 (length s) ≡ number_below limit why s at
  unfolding number_below and_then
  ends_early f = rw (← e, f)

  pub badly_formed : r ≡ Err Malformed → refused 3 at ≡ number_below limit why s at
  unfolding number_below and_then
  badly_formed f = rw (← e, f)

-- Where every number below the limit has one byte, by that byte.
module _ (s : List ℕ) (at limit : ℕ) (why : Refusal) where
  pub no_byte : length s ≤ at → refused 2 (length s) ≡ number_below limit why s at
  unfolding number_below and_then
  no_byte h = rw (← nothing_there s at h)

  pub byte_below : {b : ℕ} → at < length s → b ≡ get_or s at 0 → b < limit → limit ≤ 128 → found b (at + 1) ≡ number_below limit why s at
  unfolding number_below and_then
  byte_below {b} h e l m = rw (← one_byte s at h e (omega arith), lt-ltb b limit l)

-- Where only the end is asked for.
module _ {x : Read ℕ} {r : Bounded} (e : bounded r ≡ x) where
  pub end_of : {n : Decoding} → r ≡ Ok n → found tt n.end ≡ extent x
  unfolding extent
  end_of f = rw (← e, f)

  pub refusal-of : {n : Refused} → r ≡ Err n → refused (refusal_number n.why) n.place ≡ extent x
  unfolding extent
  refusal-of f = rw (← e, f)

pub ruleset bounds = (is_below, is_above, ends_early, badly_formed, no_byte, byte_below, end_of, refusal-of)
