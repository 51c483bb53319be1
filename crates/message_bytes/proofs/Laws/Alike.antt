-- `alike` is true of equal lists and of no others, so it tells whether two normal forms are equal ("Messages").
use mathlib.Core.Path.{◌≡◌, refl, sym, ap₂, ◌∙◌}
use mathlib.Core.Logic.{◌↔◌}
use mathlib.Core.Bool.{Bool}
use mathlib.Core.List.{List, [], ◌∷◌}
use Prim.Native.Nat.{ℕ, ◌-◌}
use native.Mathlib.Omega.{arith}
use lib.ListN.{length, take}
use lib.Seq.{take_all}
use lib.Dec.{T, eqb→eq, eqb_refl}
use lib.Ieee.Fits.{and_i, and_l, and_r}
use Rattle.std.specs.Prelude.{nat_eq}
use Rattle.std.specs.Cmp.Lexicographic.{pointwise}
use Rattle.meaning.specs.Messages.Term.{Message}
use Rattle.meaning.specs.Messages.Equation.{Equal, Normal, reflexive}
use Rattle.meaning.specs.Messages.Normal.{same, normal, equal}
use Rattle.meaning.proofs.Messages.{normal_of_normal, equality_decided}
use Rattle.meaning.proofs.Messages.Same.{same_sound, same_refl}
use Rattle.meaning.proofs.Test.{T-alike}
use Rattle.message_bytes.specs.Encoding.{encode_message}
use Rattle.message_bytes.specs.Run.{alike, Decides}
use Rattle.message_bytes.proofs.Laws.Encoding.{encode_injective}

pub alike_same : (a b : List ℕ) → T (alike a b) → a ≡ b
unfolding alike
alike_same [] [] h = refl
alike_same [] (y ∷ b) h = absurd h
alike_same (x ∷ a) [] h = absurd h
alike_same (x ∷ a) (y ∷ b) h = ap₂ ◌∷◌ (eqb→eq x y (search and_l)) (alike_same a b (search and_r))

pub same_alike : (a : List ℕ) → T (alike a a)
unfolding alike
same_alike [] = tt
same_alike (x ∷ a) = search (and_i, eqb_refl, same_alike a)

-- Runs are the same exactly where the messages are written alike; and of normal forms, exactly where they are equal.
pub same_runs : (m n : Message) → alike (encode_message m) (encode_message n) ≡ same m n
same_runs m n =
    T-alike (alike (encode_message m) (encode_message n)) (same m n)
    (λ t. rw (encode_injective m n (alike_same (encode_message m) (encode_message n) t)) (same_refl n))
    (λ t. rw (same_sound m n t) (same_alike (encode_message n)))

pub runs-decide : (m n : Message) → Normal m → Normal n → Equal m n ↔ (encode_message m ≡ encode_message n)
unfolding equal
runs-decide m n h k = (
  λ e.
      let alike = same_sound (normal m) (normal n) ((equality_decided m n).0 e) in
      cc (normal_of_normal m h, normal_of_normal n k),
  λ e. rw (encode_injective m n e) (∣ reflexive n ∣₁),
)

-- What std's test of slices says is that they are alike.
pub compared : (a b : List ℕ) → pointwise nat_eq a b ≡ alike a b
unfolding alike
compared [] [] = refl
compared [] (y ∷ b) = refl
compared (x ∷ a) [] = refl
compared (x ∷ a) (y ∷ b) = rw (compared a b)

-- The same of the parts of two runs, where these are the whole runs.
pub whole : (a : List ℕ) → take (length a - 0) a ≡ a
whole a = take_all (length a - 0) a (omega arith)

pub compared_as : {a b x y : List ℕ} {r : Bool} → r ≡ pointwise nat_eq x y → x ≡ a → y ≡ b → r ≡ alike a b
compared_as {a} {b} e p q = rw (e, p, q) (compared a b)

module _ (a b : List ℕ) where
  -- Where both are runs of normal forms, that is the equality of the messages.
  pub decides : {r : Bool} → r ≡ alike a b → Decides a b r
  decides e = record {
    exact = λ x y nx ny p q. (
      λ t. (runs-decide x y nx ny).1 (sym p ∙ alike_same a b (rw e at t) ∙ q),
      λ t. rw (e, p, q, (runs-decide x y nx ny).0 t) (same_alike (encode_message y)),
    );
  }

pub ruleset alikes = (compared, compared_as, whole, decides)
