-- Messages that a traversal hands over, copied to where they stay ("Steps").
use Rattle.std.specs.Prelude.{List, [], ◌∷◌, ℕ, ◌≤◌, length}
use Rattle.meaning.specs.Messages.Term.{Message}
use Rattle.meaning.specs.Bytes.Standing.{Stands}
use Rattle.message_bytes.specs.Encoding.{encode_message}
use Rattle.state_progress.specs.Represented.{encode_messages}
use Rattle.step_offer.specs.declared.hand.Handed.{Handed}

-- The message that stands at a position stands at the front of a slice, if there is room.
pub record Copies (out : List ℕ) (from r : ℕ) (to : List ℕ) : Type 0 where
  pub exact : (x : Message) {end : ℕ} → Stands out from (encode_message x) end → length (encode_message x) ≤ length to
      → Stands to 0 (encode_message x) r

-- The same of one that ends at a position.
pub record CopiesTo (out : List ℕ) (from end r : ℕ) (to : List ℕ) : Type 0 where
  pub exact : (x : Message) → Stands out from (encode_message x) end → length (encode_message x) ≤ length to → Stands to 0 (encode_message x) r

-- Two messages that stand one after the other stand at the fronts of two slices.
pub record Hands (out : List ℕ) (from : ℕ) (r : Handed) (channel message : List ℕ) : Type 0 where
  pub exact : (x y : Message) {end : ℕ} → Stands out from (encode_messages (x ∷ y ∷ [])) end → length (encode_message x) ≤ length channel
      → length (encode_message y) ≤ length message
      → Stands channel 0 (encode_message x) r.channel × Stands message 0 (encode_message y) r.message
