-- Messages as bytes ("Messages"): in prefix order, two bytes to a node.
use Rattle.std.specs.Prelude.{ℕ, ◌+◌, ◌*◌, List, [], ◌∷◌, ◌++◌, get_or}
use Rattle.meaning.specs.Messages.Term.{Name, public, private, Message, leaf, proj, binary, side_kind, binary_kind}
use Rattle.buffer.specs.Word.{encode_word}

-- The number of a node: a kind has document 01's number for terms, which is below 16; names have the numbers from 16 on, even
-- ones for the public names and odd ones for the private names.
abbrev pub name_number : Name → ℕ
name_number (public n) = 2 * n + 16
name_number (private n) = 2 * n + 17

unfoldable pub encode_message : Message → List ℕ
encode_message (leaf a) = encode_word (name_number a)
encode_message (proj s m) = encode_word (side_kind s) ++ encode_message m
encode_message (binary b m n) = encode_word (binary_kind b) ++ encode_message m ++ encode_message n

-- How many parts follow a node with this number: the kinds 2 to 7 have parts, a name has none.
abbrev pub node_parts : List ℕ
node_parts = 0 ∷ 0 ∷ 2 ∷ 1 ∷ 1 ∷ 2 ∷ 2 ∷ 2 ∷ []

unfoldable pub parts_of : ℕ → ℕ
parts_of v = get_or node_parts v 0
