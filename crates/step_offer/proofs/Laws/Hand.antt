-- Messages that are copied to where they stay ("Steps").
use mathlib.Core.Path.{◌≡◌, ap, subst, ◌∙◌}
use mathlib.Core.List.{List, [], ◌∷◌}
use mathlib.Core.Logic.{◌⊎◌, inl, inr}
use Prim.Native.Nat.{ℕ, ◌+◌, ◌-◌, ◌*◌, ◌<◌}
use native.Mathlib.Omega.{arith}
use lib.ListN.{length, take, drop}
use Rattle.meaning.specs.Messages.Term.{Message}
use Rattle.meaning.specs.Bytes.Standing.{Stands}
use Rattle.meaning.proofs.Bytes.Reading.Place.{parts}
use Rattle.message_bytes.specs.Encoding.{encode_message}
use Rattle.message_bytes.specs.Run.{SizeOf}
use Rattle.message_bytes.proofs.Theorems.{run_length}
use Rattle.buffer.proofs.Laws.Buffer.{lent, part}
use Rattle.message_bytes.proofs.Laws.Traverse.{some_node}
use Rattle.state_record.specs.Stored.{Fetched}
use Rattle.state_progress.specs.Represented.{encode_messages}
use Rattle.step_offer.specs.Hand.{Copies, CopiesTo, Hands}
use Rattle.step_transition.proofs.Laws.Threads.{stands_ends}

pub copies_none : {out to : List ℕ} {from : ℕ} → length out < from → Copies out from 0 to
copies_none h = record { exact = λ x p k. absurd (omega (arith, stands_ends p (omega (arith, run_length x, some_node x)), p.size)) }

module _ (out : List ℕ) {from v : ℕ} (z : SizeOf (take (length out - from) (drop from out)) v) where
  pub size_of : (x : Message) {end : ℕ} → Stands out from (encode_message x) end → 2 * v ≡ length (encode_message x)
  size_of x p =
      let n = z.same x (lent p (stands_ends p (omega (arith, run_length x, some_node x)))) in omega (arith, n, run_length x)

  pub copies_sized : {r : ℕ} {to : List ℕ} → CopiesTo out from (from + 2 * v) r to → Copies out from r to
  copies_sized c = record {
    exact = λ x {end} p k.
        let ends : end ≡ from + 2 * v = omega (arith, p.size, size_of x p) in
        c.exact x (subst (λ (i : ℕ). Stands out from (encode_message x) i) ends p) k;
  }

pub ruleset copyings = (copies_none, copies_sized)

-- One that ends at a position.
module _ {out to : List ℕ} {from end : ℕ} where
  pub until_outside : (end < from) ⊎ (length out < end) → CopiesTo out from end 0 to
  until_outside (inl h) = record { exact = λ x p k. absurd (omega (arith, p.size)) }
  until_outside (inr h) = record { exact = λ x p k. absurd (omega (arith, stands_ends p (omega (arith, run_length x, some_node x)))) }

  module _ {run : List ℕ} (is : run ≡ take (end - from) (drop from out)) where
    pub until_long : length to < length run → CopiesTo out from end 0 to
    until_long h = record { exact = λ x p k. absurd (omega (arith, ap length (is ∙ part p))) }

    pub until_made : Fetched run to → CopiesTo out from end (length run) to
    until_made w = record { exact = λ x p k. let same : run ≡ encode_message x = is ∙ part p in rw same (rw same at w.there) }

pub ruleset untils = (until_outside, until_long, until_made)

-- The second one stands behind the first.
pub handed : {out : List ℕ} {from a b : ℕ} (channel message : List ℕ) → Copies out from a channel → Copies out (from + a) b message
    → Hands out from (record { channel = a; message = b }) channel message
unfolding encode_messages
handed {out} {from} {a} channel message f g = record {
  exact = λ x y p k l.
      let (mid, q, both) = parts (encode_message x) (encode_messages (y ∷ []) ∷ []) p in
      let (last, r, e) = parts (encode_message y) ([] ∷ []) both in
      let first = f.exact x q k in
      let here : mid ≡ from + a = omega (arith, q.size, first.size) in
      (first, g.exact y (subst (λ (n : ℕ). Stands out n (encode_message y) last) here r) l);
}

pub none_handed : {out : List ℕ} {from : ℕ} (channel message : List ℕ) → length out < from
    → Hands out from (record { channel = 0; message = 0 }) channel message
unfolding encode_messages
none_handed channel message h = record {
  exact = λ x y p k l.
      let (mid, q, both) = parts (encode_message x) (encode_messages (y ∷ []) ∷ []) p in
      absurd (omega (arith, stands_ends q (omega (arith, run_length x, some_node x)), q.size));
}

pub ruleset hands = (handed, none_handed)
