-- The normal form of a message whose parts are in normal form ("Messages").
use Rattle.std.specs.Prelude.{◌≡◌, List, ℕ, ◌+◌, ◌*◌}
use Rattle.meaning.specs.Messages.Term.{Side, Direction, opposite, cipher, side_kind, binary_kind, Message, leaf, proj, binary, nodes}
use Rattle.meaning.specs.Messages.Equation.{Normal}
use Rattle.meaning.specs.Messages.Normal.{normal}
use Rattle.meaning.specs.Bytes.Standing.{Stands}
use Rattle.message_bytes.specs.Encoding.{encode_message}

-- The parts of a message are in normal form, whether or not it is itself.
abbrev pub PartsNormal : Message → Type 0
PartsNormal (leaf a) = Unit {0}
PartsNormal (proj s m) = Normal m
PartsNormal (binary b m n) = Normal m × Normal n

-- Where the first part of a message ends in its run, or the node itself, if it has no parts.
abbrev pub first_end : Message → ℕ
first_end (leaf a) = 2
first_end (proj s m) = 2 + 2 * nodes m
first_end (binary b m n) = 2 + 2 * nodes m

-- If the slice m is a projection of a normal form, by the kind given, its normal form is the part of m from one position to another.
pub record Projects (m : List ℕ) (kind from end : ℕ) : Type 0 where
  pub there : (s : Side) (y : Message) → Normal y → kind ≡ side_kind s → m ≡ encode_message (proj s y)
      → Stands m from (encode_message (normal (proj s y))) end

-- The same for a cipher over normal forms, the first of which ends at mid; the kind of its opposite is given.
pub record Undoes (m : List ℕ) (mid other from end : ℕ) : Type 0 where
  pub there : (d : Direction) (y k : Message) → Normal y → Normal k → other ≡ binary_kind (cipher (opposite d))
      → m ≡ encode_message (binary (cipher d) y k) → mid ≡ first_end (binary (cipher d) y k)
      → Stands m from (encode_message (normal (binary (cipher d) y k))) end

-- The same for any message over normal forms.
pub record Survives (m : List ℕ) (mid from end : ℕ) : Type 0 where
  pub there : (x : Message) → PartsNormal x → m ≡ encode_message x → mid ≡ first_end x
      → Stands m from (encode_message (normal x)) end

-- If the slice was such a message, its normal form now stands at the front and ends at r.
pub record Normalised (m : List ℕ) (mid r : ℕ) (after : List ℕ) : Type 0 where
  pub there : (x : Message) → PartsNormal x → m ≡ encode_message x → mid ≡ first_end x
      → Stands after 0 (encode_message (normal x)) r
