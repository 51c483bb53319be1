-- Terms, recipes and messages ("Bytes", the term kinds). They are one type over the leaves: terms have public names and
-- variables, recipes have public names and aliases, messages have public and private names.
use Rattle.std.specs.Prelude.{ℕ, ◌+◌}

-- fst and snd are one kind with a side.
pub data Side : Type 0 where
  fst snd : Side

-- enc and dec are one kind with a direction.
pub data Direction : Type 0 where
  enc dec : Direction

abbrev pub opposite : Direction → Direction
opposite enc = dec
opposite dec = enc

-- The kinds with two parts.
pub data Binary : Type 0 where
  pair : Binary
  cipher : Direction → Binary
  mac : Binary

-- The numbers that document 01 gives to the kinds.
abbrev pub side_kind : Side → ℕ
side_kind fst = 3
side_kind snd = 4

abbrev pub binary_kind : Binary → ℕ
binary_kind pair = 2
binary_kind (cipher enc) = 5
binary_kind (cipher dec) = 6
binary_kind mac = 7

pub data Tree (L : Type 0) : Type 0 where
  leaf : L → Tree L
  proj : Side → Tree L → Tree L
  binary : Binary → Tree L → Tree L → Tree L

-- The leaves of a term or a recipe: public name n; variable k, or in a recipe alias k.
pub data Leaf : Type 0 where
  name : ℕ → Leaf
  variable : ℕ → Leaf

-- The leaves of a message.
pub data Name : Type 0 where
  public : ℕ → Name
  private : ℕ → Name

abbrev pub Term : Type 0
Term = Tree Leaf

abbrev pub Recipe : Type 0
Recipe = Tree Leaf

abbrev pub Message : Type 0
Message = Tree Name

-- The number of nodes of a tree.
abbrev pub nodes : {L : Type 0} → Tree L → ℕ
nodes (leaf l) = 1
nodes (proj s t) = 1 + nodes t
nodes (binary b t u) = 1 + nodes t + nodes u

-- The tree with other trees in the place of its leaves.
abbrev pub substitute : {K L : Type 0} → (K → Tree L) → Tree K → Tree L
substitute f (leaf k) = f k
substitute f (proj s t) = proj s (substitute f t)
substitute f (binary b t u) = binary b (substitute f t) (substitute f u)
