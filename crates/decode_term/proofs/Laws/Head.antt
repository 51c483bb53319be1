-- The head of a node: its kind, whether it may stand here, and its own fields ("Turned back for the input", 7).
use Rattle.std.specs.Prelude.{Ok, Err}
use mathlib.Core.Path.{◌≡◌, refl}
use mathlib.Core.Bool.{Bool, true, false, ◌&&◌}
use mathlib.Core.List.{List}
use Prim.Native.Nat.{ℕ, zero, suc}
use borrow.Author.Tests.{not-true, not-false}
use lib.Dec.{ltb}
use Rattle.meaning.specs.Bytes.Scope.{largest_name}
use Rattle.meaning.specs.Bytes.Number.{found, refused, and_then}
use Rattle.decode_number.specs.Answer.{Extent, Answer, Bounded, refusal_number, answer, bounded, extent}
use Rattle.decode_number.specs.Bounded.{number_below}
use Rattle.decode_term.specs.Shape.{head_of, leaf}
use Rattle.decode_number.specs.declared.answer.Refusal.TheVariants.{UnknownKind, NameRange, OutOfScope}
use Rattle.decode_number.specs.declared.answer.Refused.{Refused}
use Rattle.decode_number.specs.declared.number.Decoding.{Decoding}

module _ (kinds left : ℕ) (room : ℕ → Bool) (own : ℕ → ℕ → Extent) (s : List ℕ) (at : ℕ) {r : Bounded}
    (e : bounded r ≡ number_below kinds UnknownKind s at) where
  pub no_kind : {f : Refused} → r ≡ Err f → refused (refusal_number f.why) f.place ≡ head_of kinds left room own s at
  unfolding head_of and_then
  no_kind f = rw (← e, f)

  module _ {n : Decoding} (f : r ≡ Ok n) {b : Bool} (h : b ≡ (ltb 0 left && room n.value)) where
    pub may_not_stand : b ≡ false → refused 7 at ≡ head_of kinds left room own s at
    unfolding head_of and_then
    may_not_stand g = rw (← e, f, ← h, g)

    module _ (g : b ≡ true) {a : Answer} (i : answer a ≡ own n.value n.end) where
      pub own_refused : {f : Refused} → a ≡ Err f → refused (refusal_number f.why) f.place ≡ head_of kinds left room own s at
      unfolding head_of and_then
      own_refused j = rw (← e, f, ← h, g, ← i, j)

      pub own_read : {end : ℕ} → a ≡ Ok end → found n.value end ≡ head_of kinds left room own s at
      unfolding head_of and_then
      own_read j = rw (← e, f, ← h, g, ← i, j)

-- The number of a public name, of a variable, and of the kinds that have none.
pub leaf_name : (scope : ℕ) (s : List ℕ) (k at : ℕ) {x : Extent}
    → k ≡ 0 → x ≡ extent (number_below (suc largest_name) NameRange s at) → x ≡ leaf scope s k at
unfolding leaf
leaf_name scope s k at e h = rw e h

pub leaf_variable : (scope : ℕ) (s : List ℕ) (k at : ℕ) {x : Extent}
    → k ≡ 1 → x ≡ extent (number_below scope OutOfScope s at) → x ≡ leaf scope s k at
unfolding leaf
leaf_variable scope s k at e h = rw e h

pub no_leaf : (scope : ℕ) (s : List ℕ) (k at : ℕ) → (k ≡ 0 → ⊥) → (k ≡ 1 → ⊥) → found tt at ≡ leaf scope s k at
unfolding leaf
no_leaf scope s zero at a b = absurd (a refl)
no_leaf scope s (suc zero) at a b = absurd (b refl)
no_leaf scope s (suc (suc k)) at a b = refl

pub ruleset heads = (
  no_kind,
  may_not_stand,
  own_refused,
  own_read,
  leaf_name,
  leaf_variable,
  no_leaf,
  not-true,
  not-false,
)
