-- The argument of a traversal that asks for no message in particular ("Steps").
use mathlib.Core.Path.{◌≡◌}
use mathlib.Core.List.{List, [], ◌∷◌}
use Prim.Native.Nat.{ℕ}
use native.Mathlib.Omega.{arith}
use Rattle.meaning.specs.Messages.Term.{leaf, public}
use Rattle.meaning.specs.Messages.Normal.{normal}
use Rattle.meaning.proofs.Messages.{normal_forms}
use Rattle.message_bytes.specs.Encoding.{encode_message}
use Rattle.buffer.specs.Word.{encode_word}
use Rattle.state_layout.specs.Loaded.{IsRunOf}

-- The run of the public name 0.
pub argument_zero : {argument : List ℕ} → argument ≡ 16 ∷ 0 ∷ [] → IsRunOf argument (leaf (public 0))
unfolding encode_message encode_word normal
argument_zero e = record { same = e; small = rw e (omega arith); normal = (normal_forms (leaf (public 0))).0 }
