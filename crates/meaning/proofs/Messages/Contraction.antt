-- One step towards the normal form: the equation at the top of a message, applied where one applies ("Messages").
use mathlib.Core.Path.{◌≡◌, refl, sym, ◌∙◌, ap}
use mathlib.Core.Logic.{◌↔◌, ◌⊎◌, inl, inr}
use mathlib.Core.Bool.{Bool, true, false}
use Prim.Native.Nat.{◌<◌}
use native.Mathlib.Omega.{arith}
use lib.Dec.{T, eqb→eq, eqb_refl}
use lib.Ieee.Fits.{and_i, and_l, and_r}
use lib.Ieee.Bits.{is_true}
use Rattle.meaning.specs.Messages.Term.{fst, snd, Direction, enc, dec, opposite, Binary, pair, cipher, mac}
use Rattle.meaning.specs.Messages.Term.{Message, leaf, proj, binary, nodes}
use Rattle.meaning.specs.Messages.Equation.{◌⇝◌, projected, undone, ◌≈◌, equation, reflexive, symmetric, Stuck, Normal}
use Rattle.meaning.specs.Messages.Normal.{project, undoes, crypt, build}
use Rattle.meaning.proofs.Messages.Same.{binary_kind_injective, same_sound, same_refl}

-- The message with the equation at its top applied, where one applies there.
abbrev pub contract : Message → Message
contract (leaf a) = leaf a
contract (proj s m) = project s m
contract (binary b m n) = build b m n

undoes_sound : (d : Direction) (b : Binary) (m l k : Message) → T (undoes d b l k) → binary (cipher d) (binary b m l) k ⇝ m
undoes_sound d b m l k h =
    rw (binary_kind_injective b (cipher (opposite d)) (eqb→eq _ _ (search and_l)), same_sound l k (search and_r)) (undone d m k)

-- The equation that applies is the one that is applied.
contract_equation : {m n : Message} → m ⇝ n → contract m ≡ n
unfolding project crypt build
contract_equation (projected s m n) = refl
contract_equation (undone d m k) =
    rw (is_true (undoes d (cipher (opposite d)) k k) (search (and_i, eqb_refl, same_refl)), crypt)

-- What a test chooses, where it passes only if an equation applies.
tested : {m n : Message} (u : Bool) → (T u → m ⇝ n)
    → (m ⇝ elim u [ true ↦ n | false ↦ m ]) ⊎ (elim u as (λ _. Message) [ true ↦ n | false ↦ m ] ≡ m)
tested true sound = inl (sound tt)
tested false sound = inr refl

-- Either an equation is applied or nothing changes.
pub contract_cases : (m : Message) → (m ⇝ contract m) ⊎ (contract m ≡ m)
unfolding project crypt build
contract_cases (leaf a) = inr refl
contract_cases (proj s (leaf a)) = inr refl
contract_cases (proj s (proj t m)) = inr refl
contract_cases (proj s (binary pair m n)) = inl (projected s m n)
contract_cases (proj s (binary (cipher d) m k)) = inr refl
contract_cases (proj s (binary mac m k)) = inr refl
contract_cases (binary pair m n) = inr refl
contract_cases (binary (cipher d) (leaf a) k) = inr refl
contract_cases (binary (cipher d) (proj s m) k) = inr refl
contract_cases (binary (cipher d) (binary b m l) k) = tested (undoes d b l k) (undoes_sound d b m l k)
contract_cases (binary mac m k) = inr refl

pub contract_equal : (m : Message) → contract m ≈ m
contract_equal m = elim (contract_cases m) [ inl e ↦ symmetric (equation e) | inr p ↦ rw p (reflexive m) ]

equation_shrinks : {m n : Message} → m ⇝ n → nodes n < nodes m
equation_shrinks (projected fst m n) = omega arith
equation_shrinks (projected snd m n) = omega arith
equation_shrinks (undone d m k) = omega arith

-- A message is stuck exactly when it is its own contraction.
pub stuck : (m : Message) → Stuck m ↔ (contract m ≡ m)
stuck m = (
  λ s. elim (contract_cases m) [ inl e ↦ absurd (s _ e) | inr p ↦ p ],
  λ p n e. omega (arith, equation_shrinks e, ap nodes (sym p ∙ contract_equation e)),
)

abbrev pub PartsNormal : Message → Type 0
PartsNormal (leaf a) = Unit {0}
PartsNormal (proj s m) = Normal m
PartsNormal (binary b m n) = Normal m × Normal n

pub normal_parts : (m : Message) → Normal m ↔ (Stuck m × PartsNormal m)
normal_parts (leaf a) = (λ h. (h, tt), λ h. h.0)
normal_parts (proj s m) = (λ h. h, λ h. h)
normal_parts (binary b m n) = (λ h. (h.0, (h.1, h.2)), λ h. (h.0, h.1.0, h.1.1))

equation_normal : {m n : Message} → m ⇝ n → PartsNormal m → Normal n
equation_normal (projected fst m n) h = h.1
equation_normal (projected snd m n) h = h.2
equation_normal (undone d m k) h = h.0.1

pub contract_normal : (m : Message) → PartsNormal m → Normal (contract m)
contract_normal m h =
    elim (contract_cases m) [ inl e ↦ equation_normal e h | inr p ↦ rw p ((normal_parts m).1 ((stuck m).1 p, h)) ]

-- What a cipher is undone from.
undone_from : (d : Direction) {m k n : Message} → binary (cipher (opposite d)) m k ⇝ n → m ≡ binary (cipher d) n k
undone_from enc (undone dec m k) = refl
undone_from dec (undone enc m k) = refl

-- A cipher and then its opposite under one key give a stuck message back, whether or not the first undoes one in it.
pub contract_undone : (d : Direction) (m k : Message) → Stuck m
    → contract (binary (cipher d) (contract (binary (cipher (opposite d)) m k)) k) ≡ m
contract_undone d m k s =
    elim (contract_cases (binary (cipher (opposite d)) m k)) [
      | inl e ↦ cc (undone_from d e, (stuck m).0 s)
      | inr p ↦ rw p (contract_equation (undone d m k))
    ]
