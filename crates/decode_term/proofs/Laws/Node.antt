-- A node by its head and the parts that follow ("Bytes").
use Rattle.std.specs.Prelude.{Ok, Err}
use mathlib.Core.Path.{◌≡◌, refl, ap, ◌∙◌}
use mathlib.Core.List.{List}
use Prim.Native.Nat.{ℕ, suc, ◌-◌, ◌≤◌}
use native.Mathlib.Omega.{arith}
use Rattle.meaning.specs.Bytes.Number.{Read, found, refused, and_then}
use Rattle.meaning.specs.Bytes.Reading.{term}
use Rattle.decode_number.specs.Answer.{Extent, Answer, Bounded, refusal_number, answer, bounded, extent}
use Rattle.decode_term.specs.Shape.{times, node, terms_at}
use Rattle.decode_layout.specs.declared.layout.Layout.{Layout}
use Rattle.decode_layout.specs.Layout.{parts, layout_of}
use Rattle.decode_number.specs.declared.answer.Refused.{Refused}
use Rattle.decode_number.specs.declared.number.Decoding.{Decoding}

-- Nothing is done after the last.
then_done : (x : Extent) → and_then x (λ _ end. found tt end) ≡ x
unfolding and_then
then_done (found tt end) = refl
then_done (refused number place) = refl

module _ (h : Read ℕ) (table : List Layout) (part : ℕ → ℕ → Extent) {x : Extent} (d : x ≡ node h table part) {r : Bounded}
    (e : bounded r ≡ h) where
  pub no_head : {f : Refused} → r ≡ Err f → refused (refusal_number f.why) f.place ≡ x
  unfolding node and_then
  no_head f = rw (d, ← e, f)

  module _ {n : Decoding} (f : r ≡ Ok n) {m : ℕ} (g : m ≡ parts (layout_of table n.value)) where
    -- The parts that are left to be read.
    rest : x ≡ times m (part n.value) n.end
    unfolding node and_then
    rest = rw (d, ← e, f, ← g)

    pub no_parts : m ≡ 0 → found tt n.end ≡ x
    unfolding times
    no_parts z = rw (rest, z)

    -- Of a node of one part, that part is left.
    pub one_part : m ≤ 2 → (m ≡ 0 → ⊥) → (m ≡ 2 → ⊥) → {y : Extent} → y ≡ part n.value n.end → x ≡ y
    unfolding times
    one_part few z t i =
        let one : m ≡ 1 = omega arith in
        rw (rest, one, i, then_done)

    pub first_refused : m ≡ 2 → {a : Answer} → answer a ≡ part n.value n.end → {h : Refused} → a ≡ Err h
        → refused (refusal_number h.why) h.place ≡ x
    unfolding times and_then
    first_refused two i j = rw (rest, two, ← i, j)

    -- Of a node of two parts, the second is left after the first.
    pub two_parts : m ≡ 2 → {a : Answer} → answer a ≡ part n.value n.end → {mid : ℕ} → a ≡ Ok mid
        → {y : Extent} → y ≡ part n.value mid → x ≡ y
    unfolding times and_then
    two_parts two i {mid} j m = rw (rest, two, ← i, j, m, then_done (part n.value mid))

-- Terms in a row.
module _ (count scope : ℕ) (s : List ℕ) (at : ℕ) where
  pub no_fields : count ≡ 0 → found tt at ≡ terms_at count scope s at
  unfolding terms_at times
  no_fields z = rw z

  module _ (z : count ≡ 0 → ⊥) (a : Answer) (e : answer a ≡ extent (term 8 scope s at)) where
    after_one : terms_at count scope s at ≡ and_then (answer a) (λ _ end. terms_at (count - 1) scope s end)
    unfolding terms_at times
    after_one =
        let one : count ≡ suc (count - 1) = omega arith in
        ap (λ n. terms_at n scope s at) one ∙ rw e

    pub field_refused : {f : Refused} → a ≡ Err f → refused (refusal_number f.why) f.place ≡ terms_at count scope s at
    unfolding and_then
    field_refused f = rw (after_one, f)

    pub field_read : {end : ℕ} → a ≡ Ok end → {x : Extent} → x ≡ terms_at (count - 1) scope s end
        → x ≡ terms_at count scope s at
    unfolding and_then
    field_read f g = rw (after_one, f) g

pub ruleset rows = (no_fields, field_refused, field_read)
