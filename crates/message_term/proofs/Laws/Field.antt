-- Numbers that are read again ("Bytes", first paragraph).
use mathlib.Core.Path.{◌≡◌}
use mathlib.Core.List.{List}
use Prim.Native.Nat.{ℕ, ◌%◌}
use native.Mathlib.Omega.{arith}
use Rattle.meaning.specs.Bytes.Number.{number}
use Rattle.meaning.proofs.Bytes.Reading.Number.{number_complete}
use Rattle.decode_number.specs.Decoding.{canonical}
use Rattle.decode_number.proofs.Laws.Decoding.{decoded_so}
use Rattle.message_term.specs.Inner.{FieldAt}

-- What arithmetic gives is the number that stands there, if one does.
pub read_again : (s : List ℕ) (at n next : ℕ) → number s at ≡ canonical s at n next → FieldAt s at (n % 16384) next
read_again s at n next e = record {
  same = λ v h p. let (value, end) = decoded_so s at n next e (number_complete v h p) in (omega arith, end);
}
