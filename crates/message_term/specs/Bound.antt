-- Bound messages as bytes ("Steps": threads with their bound messages; the messages of the aliases).
use Rattle.std.specs.Prelude.{◌≡◌, List, [], ◌∷◌, ◌++◌, ℕ, ◌≤◌, ◌<◌, length, take, get_or}
use Rattle.meaning.specs.Messages.Term.{Message, leaf, public, nodes}
use Rattle.meaning.specs.Messages.Equation.{Normal}
use Rattle.meaning.specs.Bytes.Standing.{Stands}
use Rattle.meaning.specs.Places.{Every}
use Rattle.meaning.specs.Steps.State.{Bound, ◌▸◌}
use Rattle.message_bytes.specs.Encoding.{encode_message}
use Rattle.buffer.specs.Word.{encode_word}

-- Before each message stands the number of its nodes, so the next one is found without a traversal.
abbrev pub encode_entry : Message → List ℕ
encode_entry m = encode_word (nodes m) ++ encode_message m

unfoldable pub encode_bound : Bound → List ℕ
encode_bound [] = []
encode_bound (m ∷ ρ) = encode_entry m ++ encode_bound ρ

-- If bound messages stand at the front, the one of variable k begins at r.
pub record Begins (b : List ℕ) (k r : ℕ) : Type 0 where
  pub there : (ρ : Bound) {end : ℕ} → Stands b 0 (encode_bound ρ) end → k < length ρ → r ≡ length (encode_bound (take k ρ))

-- And its message stands from one position to another.
pub record Found (b : List ℕ) (k from end : ℕ) : Type 0 where
  pub there : (ρ : Bound) {last : ℕ} → Stands b 0 (encode_bound ρ) last → k < length ρ
      → Stands b from (encode_message (get_or ρ k (leaf (public 0)))) end

-- Bound messages, all in normal form, stand from the position base to the position end. They are at most as many as two bytes can
-- number.
pub record BoundTo (m : List ℕ) (base : ℕ) (ρ : Bound) (end : ℕ) : Type 0 where
  pub stands : Stands m base (encode_bound ρ) end
  pub few : length ρ ≤ 16384
  pub normal : Every Normal ρ

-- They end at the position start or before it.
pub record BoundAt (m : List ℕ) (base : ℕ) (ρ : Bound) (start : ℕ) : Type 0 where
  pub end : ℕ
  pub bound : BoundTo m base ρ end
  pub below : end ≤ start

-- Whatever messages are bound up to the position end, m is bound after them, up to the position last.
pub record Binds (before : List ℕ) (end : ℕ) (m : Message) (last : ℕ) (after : List ℕ) : Type 0 where
  pub exact : (ρ : Bound) {base : ℕ} → Stands before base (encode_bound ρ) end → Stands after base (encode_bound (ρ ▸ m)) last

-- The same for the message whose run the slice x is.
pub record BindsRun (x before : List ℕ) (end last : ℕ) (after : List ℕ) : Type 0 where
  pub exact : (m : Message) → x ≡ encode_message m → Binds before end m last after
