-- Messages as bytes can be told apart by their bytes, and messages in normal form are compared by them ("Messages").
use mathlib.Core.Path.{◌≡◌, sym, ap, ◌∙◌}
use native.Mathlib.Omega.{arith}
use lib.ListN.{length, drop}
use Rattle.meaning.specs.Messages.Normal.{equal}
use Rattle.meaning.proofs.Messages.{normal_of_normal}
use Rattle.message_bytes.specs.Encoding.{encode_message}
use Rattle.message_bytes.specs.Theorems.{RunLength, EncodingInjective, RunsEnd, NamesFit}
use Rattle.message_bytes.specs.Theorems.{RunsDecide, RunsTested}
use Rattle.message_bytes.proofs.Laws.Encoding.{length_encode, runs-end, encode_injective, encode_bytes}
use Rattle.message_bytes.proofs.Laws.Alike.{runs-decide, same_runs}

pub run_length : RunLength
run_length = length_encode

pub encoding_injective : EncodingInjective
encoding_injective = encode_injective

pub runs_end : RunsEnd
runs_end s at m n i j p q =
    let same : m ≡ n = (runs-end m n (drop i s) (drop j s) (sym p.bytes ∙ q.bytes)).0 in
    (same, omega (arith, p.size, q.size, ap (λ m. length (encode_message m)) same))

pub names_fit : NamesFit
names_fit = encode_bytes

pub runs_decide : RunsDecide
runs_decide = runs-decide

pub runs_tested : RunsTested
unfolding equal
runs_tested m n h k = rw (normal_of_normal m h, normal_of_normal n k) (same_runs m n)
