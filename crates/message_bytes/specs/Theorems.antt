-- The theorems on messages as bytes ("Messages"). Their proofs are in proofs/Theorems.antt, under the same names with a small
-- first letter.
use Rattle.std.specs.Prelude.{◌≡◌, ◌↔◌, List, ℕ, ◌*◌, ◌≤◌, length}
use Rattle.meaning.specs.Messages.Term.{Name, public, private, Message, leaf, proj, binary, nodes}
use Rattle.meaning.specs.Messages.Equation.{Equal, Normal}
use Rattle.meaning.specs.Messages.Normal.{equal}
use Rattle.meaning.specs.Bytes.Scope.{largest_name}
use Rattle.meaning.specs.Bytes.Standing.{Stands}
use Rattle.meaning.specs.Bytes.WellFormed.{Bytes}
use Rattle.message_bytes.specs.Encoding.{encode_message}
use Rattle.message_bytes.specs.Run.{alike}

-- The run of a message has two bytes to a node.
abbrev pub RunLength : Type 0
RunLength = (m : Message) → length (encode_message m) ≡ 2 * nodes m

-- No two messages have the same run.
abbrev pub EncodingInjective : Type 0
EncodingInjective = (m n : Message) → encode_message m ≡ encode_message n → m ≡ n

-- Messages that stand at one position of a slice are the same, and end at the same position.
abbrev pub RunsEnd : Type 0
RunsEnd =
    (s : List ℕ) (at : ℕ) (m n : Message) (i j : ℕ) → Stands s at (encode_message m) i → Stands s at (encode_message n) j
    → (m ≡ n) × (i ≡ j)

-- Names that two bytes have room for: all public names, and private names to 32,759.
abbrev pub SmallName : Name → Type 0
SmallName (public n) = n ≤ largest_name
SmallName (private n) = n ≤ 32759

abbrev pub SmallNames : Message → Type 0
SmallNames (leaf a) = SmallName a
SmallNames (proj s m) = SmallNames m
SmallNames (binary b m n) = SmallNames m × SmallNames n

-- With such names, every number of a run is a byte.
abbrev pub NamesFit : Type 0
NamesFit = (m : Message) → SmallNames m → Bytes (encode_message m)

-- Messages in normal form are equal by the equations exactly where they have the same run.
abbrev pub RunsDecide : Type 0
RunsDecide = (m n : Message) → Normal m → Normal n → Equal m n ↔ (encode_message m ≡ encode_message n)

-- And so the test of their runs is the test of equality.
abbrev pub RunsTested : Type 0
RunsTested = (m n : Message) → Normal m → Normal n → alike (encode_message m) (encode_message n) ≡ equal m n
