-- The normal form of a node over normal forms, by the number of the first node of its first part ("Messages").
use mathlib.Core.Path.{◌≡◌, refl, ap}
use mathlib.Core.Bool.{true, false}
use Prim.Native.Nat.{ℕ}
use native.Mathlib.Omega.{arith}
use lib.Dec.{eqb, eqb→eq, eqb_refl}
use lib.Ieee.Bits.{is_true}
use Rattle.meaning.specs.Messages.Term.{Side, Direction, opposite, Binary, pair, cipher, mac, binary_kind}
use Rattle.meaning.specs.Messages.Term.{Message, leaf, proj, binary}
use Rattle.meaning.specs.Messages.Equation.{Normal}
use Rattle.meaning.specs.Messages.Normal.{same, project, crypt, build, normal}
use Rattle.meaning.proofs.Messages.{normal_of_normal}
use Rattle.meaning.proofs.Messages.Same.{binary_kind_injective}
use Rattle.meaning.proofs.Test.{is_false}
use Rattle.message_bytes.specs.Encoding.{parts_of}
use Rattle.message_bytes.proofs.Laws.Encoding.{head_number, head_parts}

-- What holds of each node of a kind holds of a message whose first node has the kind's number.
pub by_head : (b : Binary) (P : Message → Type 0) → ((m n : Message) → P (binary b m n))
    → (y : Message) → head_number y ≡ binary_kind b → P y
by_head b P f (leaf a) e = absurd (omega (arith, head_parts (leaf a), ap parts_of e, head_parts (binary b (leaf a) (leaf a))))
by_head b P f (proj s m) e = absurd (omega (arith, head_parts (proj s m), ap parts_of e, head_parts (binary b m m)))
by_head b P f (binary c m n) e = rw (binary_kind_injective c b e) (f m n)

-- Where no equation applies at the top, the node stays.
pub project_other : (s : Side) (y : Message) → (head_number y ≡ 2 → ⊥) → project s y ≡ proj s y
unfolding project
project_other s (leaf a) h = refl
project_other s (proj t m) h = refl
project_other s (binary pair m n) h = absurd (h refl)
project_other s (binary (cipher d) m n) h = refl
project_other s (binary mac m n) h = refl

pub crypt_other : (d : Direction) (y k : Message) → (head_number y ≡ binary_kind (cipher (opposite d)) → ⊥)
    → crypt d y k ≡ binary (cipher d) y k
unfolding crypt
crypt_other d (leaf a) k h = refl
crypt_other d (proj s m) k h = refl
crypt_other d (binary b m l) k h =
    rw (is_false (eqb (binary_kind b) (binary_kind (cipher (opposite d)))) (λ t. h (eqb→eq _ _ t)), crypt)

-- Over its opposite, the node goes where the keys are the same.
pub crypt_undoes : (d : Direction) (m l k : Message)
    → crypt d (binary (cipher (opposite d)) m l) k
    ≡ elim (same l k) [ true ↦ m | false ↦ binary (cipher d) (binary (cipher (opposite d)) m l) k ]
unfolding crypt
crypt_undoes d m l k =
    let kind : ℕ = binary_kind (cipher (opposite d)) in
    rw (is_true (eqb kind kind) (eqb_refl kind), crypt)

-- A node over normal forms has one step to its own at most.
pub normal_proj : (s : Side) (y : Message) → Normal y → normal (proj s y) ≡ project s y
unfolding normal
normal_proj s y n = rw (normal_of_normal y n)

pub normal_binary : (b : Binary) (y k : Message) → Normal y → Normal k → normal (binary b y k) ≡ build b y k
unfolding normal
normal_binary b y k n o = rw (normal_of_normal y n, normal_of_normal k o)
