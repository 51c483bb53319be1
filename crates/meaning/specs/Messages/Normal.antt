-- The normal form of a message, from its leaves up, and the test of equality by it ("Messages").
use Rattle.std.specs.Prelude.{ℕ, Bool, true, false, ◌&&◌, eqb}
use Rattle.meaning.specs.Messages.Term.{Side, Direction, opposite, Binary, pair, cipher, mac, side_kind, binary_kind, leaf, proj, binary}
use Rattle.meaning.specs.Messages.Term.{Name, public, private, Message, nodes}
use Rattle.meaning.specs.Messages.Equation.{part}

-- Two messages that are written alike.
abbrev pub same_name : Name → Name → Bool
same_name (public m) (public n) = eqb m n
same_name (public m) (private n) = false
same_name (private m) (public n) = false
same_name (private m) (private n) = eqb m n

unfoldable pub same : Message → Message → Bool
same (leaf a) (leaf b) = same_name a b
same (leaf a) (proj t n) = false
same (leaf a) (binary c n l) = false
same (proj s m) (leaf b) = false
same (proj s m) (proj t n) = eqb (side_kind s) (side_kind t) && same m n
same (proj s m) (binary c n l) = false
same (binary b m k) (leaf a) = false
same (binary b m k) (proj t n) = false
same (binary b m k) (binary c n l) = eqb (binary_kind b) (binary_kind c) && same m n && same k l

-- A node over parts in normal form, with the equation applied where one applies.
unfoldable pub project : Side → Message → Message
project s (leaf a) = proj s (leaf a)
project s (proj t m) = proj s (proj t m)
project s (binary pair m n) = part s m n
project s (binary (cipher d) m n) = proj s (binary (cipher d) m n)
project s (binary mac m n) = proj s (binary mac m n)

-- Whether the cipher d under the key k undoes a node of kind b that has the key l.
abbrev pub undoes : Direction → Binary → Message → Message → Bool
undoes d b l k = eqb (binary_kind b) (binary_kind (cipher (opposite d))) && same l k

unfoldable pub crypt : Direction → Message → Message → Message
crypt d (leaf a) k = binary (cipher d) (leaf a) k
crypt d (proj s m) k = binary (cipher d) (proj s m) k
crypt d (binary b m l) k = elim (undoes d b l k) [ true ↦ m | false ↦ binary (cipher d) (binary b m l) k ]

unfoldable pub build : Binary → Message → Message → Message
build pair m n = binary pair m n
build (cipher d) m n = crypt d m n
build mac m n = binary mac m n

unfoldable pub normal : Message → Message
normal (leaf a) = leaf a
normal (proj s m) = project s (normal m)
normal (binary b m n) = build b (normal m) (normal n)

-- The size of a message.
abbrev pub size : Message → ℕ
size m = nodes (normal m)

-- The test of equality by the equations.
unfoldable pub equal : Message → Message → Bool
equal m n = same (normal m) (normal n)
