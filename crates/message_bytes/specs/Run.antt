-- What is asked of runs: their size, and whether two of them are the same ("Messages").
use Rattle.std.specs.Prelude.{◌≡◌, ◌↔◌, Bool, true, false, ◌&&◌, List, [], ◌∷◌, ℕ, T, eqb}
use Rattle.meaning.specs.Messages.Term.{Message, nodes}
use Rattle.meaning.specs.Messages.Equation.{Equal, Normal}
use Rattle.meaning.specs.Bytes.Standing.{Stands}
use Rattle.message_bytes.specs.Encoding.{encode_message}

-- If a message stands at the front, it has r nodes. If none does, nothing is said of r.
pub record SizeOf (m : List ℕ) (r : ℕ) : Type 0 where
  pub same : (x : Message) {end : ℕ} → Stands m 0 (encode_message x) end → r ≡ nodes x

-- The same bytes.
unfoldable pub alike : List ℕ → List ℕ → Bool
alike [] [] = true
alike [] (b ∷ t) = false
alike (a ∷ s) [] = false
alike (a ∷ s) (b ∷ t) = eqb a b && alike s t

-- If the runs are those of two normal forms, r says whether the messages are equal by the equations.
pub record Decides (a b : List ℕ) (r : Bool) : Type 0 where
  pub exact : (x y : Message) → Normal x → Normal y → a ≡ encode_message x → b ≡ encode_message y → T r ↔ Equal x y
