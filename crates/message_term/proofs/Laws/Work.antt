-- A term worked from its leaves up ("Messages"): what its parts come to, and then the term itself.
use Rattle.std.specs.Prelude.{Option, Some, None}
use mathlib.Core.Path.{◌≡◌, refl, sym, ap, ◌∙◌}
use mathlib.Core.Bool.{Bool, true, false}
use mathlib.Core.List.{List}
use Prim.Native.Nat.{ℕ, ◌+◌, ◌-◌, ◌≤◌}
use native.Mathlib.Omega.{arith}
use lib.ListN.{length, get_or}
use Rattle.meaning.specs.Messages.Term.{Side, fst, snd, enc, dec, Binary, pair, cipher, mac, side_kind, binary_kind}
use Rattle.meaning.specs.Messages.Term.{Term, leaf, proj, binary, name, variable, Message}
use Rattle.meaning.specs.Messages.Normal.{normal}
use Rattle.meaning.specs.Bytes.Standing.{Stands}
use Rattle.meaning.specs.Steps.State.{Bound, worked}
use Rattle.meaning.specs.Judging.Limits.{over, over_whole}
use Rattle.message_bytes.specs.Encoding.{encode_message}
use Rattle.buffer.specs.Buffer.{Within}
use Rattle.message_normal.specs.Normal.{PartsNormal, first_end}
use Rattle.message_term.specs.Bound.{BoundAt}
use Rattle.message_term.specs.Work.{TermAt, answer_of, WorkedTo, Works}
use Rattle.message_term.specs.Inner.{NameWorked, VariableWorked, Reduced, NodeWorked}
use Rattle.message_term.specs.declared.work.Worked.{Worked}
use Rattle.buffer.proofs.Laws.Buffer.{kept}
use Rattle.message_term.proofs.Laws.Leaf.{done_or_large, some_same}
use Rattle.message_term.proofs.Laws.Term.{term_kind, of_name, of_variable, of_proj, of_binary}

-- The bound messages are still there.
pub still_bound : {m n : List ℕ} {base start low high new : ℕ} {ρ : Bound}
    → BoundAt m base ρ start → Within low high m n → start ≤ low → start ≤ new → BoundAt n base ρ new
still_bound {low} b w h l = record {
  end = b.end;
  bound = record {
    stands = kept {low = low} b.bound.stands (omega (arith, b.below)) w.below;
    few = b.bound.few;
    normal = b.bound.normal;
  };
  below = omega (arith, b.below);
}

-- What an answer says of the term.
module _ (b : Bool) (next end : ℕ) {r : Option Worked} (a : r ≡ answer_of b next end) where
  pub said_over : r ≡ None → b ≡ true
  unfolding answer_of
  said_over e = by_case b (sym a ∙ e)
    where
      by_case : (b : Bool) → answer_of b next end ≡ None → b ≡ true
      by_case true f = refl
      by_case false f = absurd (done_or_large f)

  pub said_small : {x : Worked} → r ≡ Some x → (b ≡ false) × (x.next ≡ next) × (x.end ≡ end)
  unfolding answer_of
  said_small {x} e = by_case b (sym a ∙ e)
    where
      by_case : (b : Bool) → answer_of b next end ≡ Some x → (b ≡ false) × (x.next ≡ next) × (x.end ≡ end)
      by_case true f = absurd (done_or_large (sym f))
      by_case false f = let same = sym (some_same f) in (refl, ap (λ w. w.next) same, ap (λ w. w.end) same)

-- A node over the normal forms of its parts has the normal form of the whole.
pub by_reduction : {before after : List ℕ} {start mid end next : ℕ} {r : Option Worked} {ρ : Bound} {t : Term} (x : Message)
    → Reduced before start mid end next r after → normal x ≡ worked ρ t → over ρ t ≡ over_whole ρ t → PartsNormal x
    → Stands before start (encode_message x) end → mid ≡ start + first_end x → WorkedTo ρ t start next r after
by_reduction x d e o p q f = record {
  answer = d.answer x p q f ∙ rw (o, e);
  run = λ n. rw e at (d.run x p q f (rw e (sym o ∙ n)));
}

side_from_2 : (t : Side) → 2 ≤ side_kind t
side_from_2 fst = omega arith
side_from_2 snd = omega arith

binary_from_2 : (b : Binary) → 2 ≤ binary_kind b
binary_from_2 pair = omega arith
binary_from_2 (cipher enc) = omega arith
binary_from_2 (cipher dec) = omega arith
binary_from_2 mac = omega arith

-- What is promised of one term.
abbrev Promised : (s : List ℕ) (at left : ℕ) (m : List ℕ) (base start : ℕ) → Option Worked → (after : List ℕ) → Term → Type 0
Promised s at left m base start r after t =
    (next : ℕ) (ρ : Bound) → TermAt s at left (length ρ) t next → BoundAt m base ρ start → WorkedTo ρ t start next r after

module _ {s m after : List ℕ} {at left base start : ℕ} {r : Option Worked} where
  for_each : ((t : Term) → Promised s at left m base start r after t) → Works s at left m base start r after
  for_each f = record { exact = λ t {next} ρ p b. f t next ρ p b }

  -- No term stands there.
  pub no_node_left : left ≡ 0 → Works s at left m base start r after
  no_node_left z = for_each λ t next ρ p b. absurd (omega (arith, (term_kind t p).1))

  pub nothing_there : length s ≤ at → Works s at left m base start r after
  nothing_there h = for_each λ t next ρ p b. absurd (omega (arith, (term_kind t p).0))

  -- A public name, a variable, a node.
  module _ {kind : ℕ} (k : kind ≡ get_or s at 0) where
    pub a_name : kind ≡ 0 → NameWorked s (at + 1) start r after → Works s at left m base start r after
    a_name z w = for_each only
      where
        only : (t : Term) → Promised s at left m base start r after t
        only (leaf (name n)) next ρ p b = let (e, h, q) = of_name n p in w.exact n ρ (omega arith) q
        only (leaf (variable n)) next ρ p b = absurd (omega (arith, (of_variable n p).0))
        only (proj t u) next ρ p b = absurd (omega (arith, (of_proj t u p).0, side_from_2 t))
        only (binary c u v) next ρ p b = absurd (omega (arith, (of_binary c u v p).0, binary_from_2 c))

    pub a_variable : kind ≡ 1 → VariableWorked s (at + 1) m base start r after → Works s at left m base start r after
    a_variable z w = for_each only
      where
        only : (t : Term) → Promised s at left m base start r after t
        only (leaf (name n)) next ρ p b = absurd (omega (arith, (of_name n p).0))
        only (leaf (variable n)) next ρ p b = let (e, h, q) = of_variable n p in w.exact n ρ q h b
        only (proj t u) next ρ p b = absurd (omega (arith, (of_proj t u p).0, side_from_2 t))
        only (binary c u v) next ρ p b = absurd (omega (arith, (of_binary c u v p).0, binary_from_2 c))

    pub a_node : (kind ≡ 0 → ⊥) → (kind ≡ 1 → ⊥) → NodeWorked s (at + 1) (left - 1) m base start kind r after
        → Works s at left m base start r after
    a_node no_name no-variable w = for_each only
      where
        only : (t : Term) → Promised s at left m base start r after t
        only (leaf (name n)) next ρ p b = absurd (no_name (k ∙ (of_name n p).0))
        only (leaf (variable n)) next ρ p b = absurd (no-variable (k ∙ (of_variable n p).0))
        only (proj t u) next ρ p b = let (e, q) = of_proj t u p in w.one t u ρ (k ∙ e) q b
        only (binary c u v) next ρ p b = let (e, (mid, q, o)) = of_binary c u v p in w.two c u v ρ (k ∙ e) q o b

pub ruleset works = (no_node_left, nothing_there, a_name, a_variable, a_node)
