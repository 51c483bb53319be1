-- What is known of a node whose head was read ("Turned back for the input", 4 and 7).
use Rattle.std.specs.Prelude.{Ok}
use mathlib.Core.Path.{◌≡◌, sym, ◌∙◌}
use mathlib.Core.Bool.{Bool, ◌&&◌}
use mathlib.Core.List.{List}
use Prim.Native.Nat.{ℕ, ◌-◌, ◌≤◌, ◌<◌}
use native.Mathlib.Omega.{arith}
use lib.Dec.{T, ltb, ltb→lt}
use mir.Facts.{and_yes}
use Rattle.meaning.specs.Bytes.Number.{Read, found, refused, number}
use Rattle.meaning.proofs.Bytes.Reader.{Only, holds, fails, and-then, by_provided, of_found}
use Rattle.decode_number.specs.Answer.{Extent, Bounded, bounded}
use Rattle.decode_number.specs.Bounded.{number_below}
use Rattle.decode_term.specs.Shape.{head_of}
use Rattle.decode_number.specs.declared.answer.Refusal.{Refusal}
use Rattle.decode_number.specs.declared.number.Decoding.{Decoding}

anything : {A : Type 0} (x : Read A) → Only (λ a end. Unit {0}) x
anything (found a end) = holds tt
anything (refused number place) = fails tt

below_sound : (limit : ℕ) (why : Refusal) (s : List ℕ) (at : ℕ) → Only (λ n end. n < limit) (number_below limit why s at)
unfolding number_below
below_sound limit why s at =
    and-then (anything (number s at)) λ n end u. by_provided (ltb n limit) _ _ _ _ (λ t. ltb→lt n limit t) (λ t. tt)

-- A kind that was read is a listed one.
pub listed : (kinds : ℕ) (why : Refusal) (s : List ℕ) (at : ℕ) {r : Bounded} → bounded r ≡ number_below kinds why s at
    → {n : Decoding} → r ≡ Ok n → n.value < kinds
listed kinds why s at e {n} f =
    let read : number_below kinds why s at ≡ found n.value n.end = sym e ∙ rw f in of_found (below_sound kinds why s at) read

module _ (kinds left : ℕ) (room : ℕ → Bool) (own : ℕ → ℕ → Extent) (s : List ℕ) (at : ℕ) where
  head_sound : Only (λ k end. (k < kinds) × (0 < left) × T (ltb 0 left && room k)) (head_of kinds left room own s at)
  unfolding head_of
  head_sound =
      and-then (below_sound kinds _ s at) λ k end h. and-then (by_provided (ltb 0 left && room k) _ _ _ _
      (λ t. let (l, u) = and_yes (ltb 0 left) (room k) t in (h, ltb→lt 0 left l, t)) (λ t. tt))
      λ k end h. and-then (anything (own k end)) λ u end v. holds h

  module _ {r : Bounded} (e : bounded r ≡ head_of kinds left room own s at) {n : Decoding} (f : r ≡ Ok n) where
    facts : (n.value < kinds) × (0 < left) × T (ltb 0 left && room n.value)
    facts = let read : head_of kinds left room own s at ≡ found n.value n.end = sym e ∙ rw f in of_found head_sound read

    pub kind_listed : n.value < kinds
    kind_listed = facts.0

    pub node_left : 1 ≤ left
    node_left = omega (arith, facts.1)

    -- One node less is left for the parts, so fewer than for what was asked for.
    module _ {less : ℕ} (d : less ≡ left - 1) where
      pub left_falls : less < left
      left_falls = omega (arith, d, facts.1)

      pub part_falls : {asked t : ℕ} → left ≤ asked → asked ≡ t → less < t
      part_falls h i = omega (arith, d, facts.1)

      pub part_below : {asked : ℕ} → left ≤ asked → less ≤ asked
      part_below h = omega (arith, d)

    pub stands : T (ltb 0 left && room n.value)
    stands = facts.2
