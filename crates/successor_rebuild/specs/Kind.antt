-- Whether a thread acts itself or is a repl, whose copies act ("Steps").
use Rattle.std.specs.Prelude.{◌≡◌, Bool, true, List, ℕ, get_or}
use Rattle.meaning.specs.Bytes.Standing.{Stands}
use Rattle.state_record.specs.Record.{Placed, encode_record}

-- If the answer is yes, whatever thread has its record there is no repl.
pub record ActsItself (s : List ℕ) (at : ℕ) (out : List ℕ) (b : Bool) : Type 0 where
  pub exact : b ≡ true → (t : Placed) {next : ℕ} → Stands out at (encode_record t) next → get_or s t.place 0 ≡ 7 → ⊥
