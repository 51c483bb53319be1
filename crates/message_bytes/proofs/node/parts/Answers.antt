-- `message_bytes::node::parts` meets its contract: each kind has its parts, and every number after them is a name's.
use Rattle.std.proofs.Common.{◌≡◌, ℕ, refl, arith}
use Rattle.message_bytes.specs.Encoding.{parts_of}
use Rattle.message_bytes.proofs.Laws.Encoding.{no_parts, no_parts_below, one_part, two_parts}
use Rattle.message_bytes.proofs.node.parts.Goals as goal

-- A number that is known.
known : {parts v : ℕ} (n : ℕ) → v ≡ n → parts ≡ parts_of n → parts ≡ parts_of v
known n e p = rw e p

pub returns-in-2 : goal.returns-in-2
unfolding parts_of
returns-in-2 c = known 2 c.in-2.is refl

pub returns-in-2-2 : goal.returns-in-2-2
returns-in-2-2 c = two_parts c.args.number (omega arith) (omega arith)

pub returns-in-3 : goal.returns-in-3
returns-in-3 c = one_part c.args.number (omega arith) (omega arith)

pub returns-in_default : goal.returns-in_default
returns-in_default c = no_parts_below c.args.number (omega arith)

pub returns-in_default-2 : goal.returns-in_default-2
returns-in_default-2 c = no_parts c.args.number (omega arith)
