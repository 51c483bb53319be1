-- A term with parts, worked after its parts ("Messages"; "Judging and its count": each part is held to the limit).
use Rattle.std.specs.Prelude.{Option, Some, None}
use mathlib.Core.Path.{◌≡◌, ap, ◌∙◌}
use mathlib.Core.List.{List}
use Prim.Native.Nat.{ℕ, ◌+◌, ◌*◌, ◌/◌, ◌%◌, ◌≤◌}
use native.Mathlib.Omega.{arith}
use lib.ListN.{length, set}
use Rattle.meaning.specs.Messages.Term.{Side, Binary, Term, proj, binary}
use Rattle.meaning.specs.Messages.Normal.{normal}
use Rattle.meaning.specs.Bytes.Standing.{Stands}
use Rattle.meaning.specs.Steps.State.{Bound, written, worked}
use Rattle.meaning.specs.Judging.Limits.{over}
use Rattle.meaning.proofs.Bytes.Reading.Place.{◌⨾◌}
use Rattle.meaning.proofs.Messages.{normal_forms, normal_of_normal}
use Rattle.message_bytes.specs.Encoding.{encode_message, parts_of}
use Rattle.buffer.specs.Word.{encode_word}
use Rattle.buffer.specs.Buffer.{Within}
use Rattle.message_term.specs.Bound.{BoundAt}
use Rattle.message_term.specs.Work.{Works}
use Rattle.message_term.specs.Inner.{Reduced, NodeWorked, FirstWorked, SecondWorked}
use Rattle.message_term.specs.declared.work.Worked.{Worked}
use Rattle.message_bytes.proofs.Laws.Encoding.{length_encode, side_parts, binary_parts}
use Rattle.buffer.proofs.Laws.Buffer.{kept, node_within, node_stands}
use Rattle.message_term.proofs.Laws.Leaf.{over_large}
use Rattle.message_term.proofs.Laws.Work.{still_bound, said_over, said_small, by_reduction}

-- The normal form of a node from those of its parts.
worked_proj : (ρ : Bound) (t : Side) (u : Term) → normal (proj t (worked ρ u)) ≡ worked ρ (proj t u)
unfolding normal
worked_proj ρ t u = rw (normal_of_normal (worked ρ u) (normal_forms (written ρ u)).0)

worked_binary : (ρ : Bound) (b : Binary) (u v : Term) → normal (binary b (worked ρ u) (worked ρ v)) ≡ worked ρ (binary b u v)
unfolding normal
worked_binary ρ b u v =
    rw (normal_of_normal (worked ρ u) (normal_forms (written ρ u)).0, normal_of_normal (worked ρ v) (normal_forms (written ρ v)).0)

-- The first part stands behind the kind.
module _ {s m : List ℕ} {at left base start mid kind c : ℕ} (g : c ≡ parts_of kind) where
  -- The kind has no other part.
  pub projected : {m₁ m₂ : List ℕ} {i end : ℕ} {r : Option Worked} → Reduced m₁ start mid end i r m₂ → m₁ ≡ m → i ≡ at → end ≡ mid → c ≡ 1
      → SecondWorked s at left m base start mid kind r m₂
  unfolding over encode_message encode_word
  projected d e f l one = record {
    one = λ t u ρ k o q.
        by_reduction (proj t (worked ρ u)) (rw (e, f, l) at d) (worked_proj ρ t u) (rw o) (normal_forms (written ρ u)).0 q
        (omega (arith, q.size, length_encode (worked ρ u)));
    two = λ b u v ρ k o q p h. absurd (omega (arith, ap parts_of k, binary_parts b));
  }

  -- The second part is worked behind the first.
  module _ {m₁ : List ℕ} {r₁ : Option Worked} (two : c ≡ 1 → ⊥) (w : Within mid (mid + 512 * left) m m₁)
      (f : Works s at left m base mid r₁ m₁) where
    pub second_large : r₁ ≡ None → SecondWorked s at left m base start mid kind None m₁
    unfolding over
    second_large e = record {
      one = λ t u ρ k o q. absurd (two (g ∙ ap parts_of k ∙ side_parts t));
      two = λ b u v ρ k o q p h. over_large (rw (o, said_over _ _ _ (f.exact v ρ p h).answer e));
    }

    pub joined : {n m₂ : List ℕ} {i end : ℕ} {x : Worked} {r : Option Worked} → Reduced n start mid end i r m₂ → n ≡ m₁ → i ≡ x.next
        → end ≡ x.end → r₁ ≡ Some x → SecondWorked s at left m base start mid kind r m₂
    unfolding over encode_message encode_word
    joined d l i y e = record {
      one = λ t u ρ k o q. absurd (two (g ∙ ap parts_of k ∙ side_parts t));
      two = λ b u v ρ k o q p h.
          let second = f.exact v ρ p h in
          let (o₂, next, end) = said_small _ _ _ second.answer e in
          rw (← next) (by_reduction (binary b (worked ρ u) (worked ρ v)) (rw (l, i, y) at d) (worked_binary ρ b u v) (rw (o, o₂))
          ((normal_forms (written ρ u)).0, (normal_forms (written ρ v)).0)
          (kept {low = mid} q (omega arith) w.below ⨾ rw end (second.run o₂))
          (omega (arith, q.size, length_encode (worked ρ u))));
    }

pub ruleset joins = (projected, second_large, joined)

-- The kind is written, and then the first part is worked behind it.
pub behind_kind : {s m m₁ m₂ : List ℕ} {at left base start kind : ℕ} {r : Option Worked} → Works s at left m₁ base (start + 2) r m₂
    → Within (start + 2) (start + 2 + 512 * left) m₁ m₂ → m₁ ≡ set (set m start (kind % 256)) (start + 1) (kind / 256)
    → start + 512 * (left + 1) ≤ length m → FirstWorked s at left m base start kind r m₂
behind_kind {m} {m₁} {m₂} {base} {start} {kind} f w e room = record {
  answer = λ u ρ p b. (f.exact u ρ p (bound b)).answer;
  run = λ u ρ p b o. kind₂ ⨾ (f.exact u ρ p (bound b)).run o;
}
  where
    bound : {ρ : Bound} → BoundAt m base ρ start → BoundAt m₁ base ρ (start + 2)
    bound b = still_bound b (node_within m start kind e (omega arith)) (omega arith) (omega arith)

    kind₂ : Stands m₂ start (encode_word kind) (start + 2)
    kind₂ = kept {low = start + 2} (node_stands m start kind e (omega arith)) (omega arith) w.below

-- Then the rest.
module _ {s m m₁ : List ℕ} {at left base start kind : ℕ} {r₁ : Option Worked} (f : FirstWorked s at left m base start kind r₁ m₁) where
  pub first_large : r₁ ≡ None → NodeWorked s at left m base start kind None m₁
  unfolding over
  first_large e = record {
    one = λ t u ρ k p b. over_large (rw (said_over _ _ _ (f.answer u ρ p b) e));
    two = λ c u v ρ k p q b. over_large (rw (said_over _ _ _ (f.answer u ρ p b) e));
  }

  pub first_done : {m₂ : List ℕ} {x : Worked} {r : Option Worked} → r₁ ≡ Some x → SecondWorked s x.next left m₁ base start x.end kind r m₂
      → Within start (start + 512 * (left + 1)) m m₁ → NodeWorked s at left m base start kind r m₂
  first_done {x} e j w = record {
    one = λ t u ρ k p b.
        let (o, next, end) = said_small _ _ _ (f.answer u ρ p b) e in
        rw (← next) (j.one t u ρ k o (rw (← k, end) (f.run u ρ p b o)));
    two = λ c u v ρ k p q b.
        let (o, next, end) = said_small _ _ _ (f.answer u ρ p b) e in
        let bound : BoundAt m₁ base ρ x.end = still_bound b w (omega arith) (omega arith) in
        j.two c u v ρ k o (rw (← k, end) (f.run u ρ p b o)) (rw (← next) at q) bound;
  }

pub ruleset firsts = (first_large, first_done)
