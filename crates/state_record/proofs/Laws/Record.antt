-- The record of a thread in bytes ("Steps"): the nodes of its messages, and what stands where it was written.
use mathlib.Core.Path.{◌≡◌, ◌∙◌}
use mathlib.Core.List.{List, [], ◌∷◌}
use Prim.Native.Nat.{ℕ, ◌+◌, ◌*◌, ◌/◌, ◌%◌, ◌≤◌, ◌<◌}
use native.Mathlib.Omega.{arith}
use lib.ListN.{length, set}
use lib.Seq.{paste}
use Rattle.meaning.specs.Messages.Term.{nodes}
use Rattle.meaning.specs.Bytes.Standing.{Stands}
use Rattle.meaning.specs.Steps.State.{Bound}
use Rattle.meaning.specs.Judging.Limits.{bound_nodes}
use Rattle.meaning.proofs.Bytes.Reading.Place.{◌⨾◌, whole-stands}
use Rattle.buffer.specs.Word.{number_at}
use Rattle.buffer.specs.Buffer.{Within}
use Rattle.buffer.proofs.Laws.Buffer.{kept, one_after, node_within, node_stands, put_within, put_stands}
use Rattle.message_bytes.proofs.Laws.Traverse.{first_node}
use Rattle.message_term.specs.Bound.{encode_bound}
use Rattle.message_term.proofs.Laws.Bound.{first_entry}
use Rattle.state_record.specs.Record.{NodesOf, Written, HeadStands}

-- Of the messages that the slice is, these are left, and the others have so many nodes.
pub record Left (b : List ℕ) (at sum : ℕ) (ρ : Bound) : Type 0 where
  pub rest : Bound
  pub there : Stands b at (encode_bound rest) (length b)
  pub total : sum + bound_nodes rest ≡ bound_nodes ρ

pub record Summed (b : List ℕ) (at sum : ℕ) : Type 0 where
  pub so_far : (ρ : Bound) → b ≡ encode_bound ρ → Left b at sum ρ

module _ {b : List ℕ} where
  pub none_summed : Summed b 0 0
  none_summed = record {
    so_far = λ ρ e. record {
      rest = ρ;
      there = rw (← e) (whole-stands b);
      total = omega arith;
    };
  }

  -- One entry further.
  one_more : {at v : ℕ} (sum : ℕ) (ρ σ : Bound) → Stands b at (encode_bound σ) (length b) → sum + bound_nodes σ ≡ bound_nodes ρ
      → at + 1 < length b → v ≡ number_at b at → Left b (at + 2 + 2 * v) (sum + v) ρ
  unfolding encode_bound bound_nodes
  one_more sum ρ [] p t h e = absurd (omega (arith, p.size))
  one_more {at} {v} sum ρ (m ∷ σ) p t h e =
      let (n, x, rest) = first_entry m σ p in
      let same : v ≡ nodes m = e ∙ n in
      record { rest = σ; there = rw (← same) at rest; total = omega (arith, t) }

  pub summed : {at sum v : ℕ} → Summed b at sum → at + 1 < length b → v ≡ number_at b at → Summed b (at + 2 + 2 * v) (sum + v)
  summed w h e = record { so_far = λ ρ f. let l = w.so_far ρ f in one_more _ ρ l.rest l.there l.total h e }

  -- The end of the slice is the end of the messages.
  all_there : {at : ℕ} (sum : ℕ) (ρ σ : Bound) → Stands b at (encode_bound σ) (length b) → sum + bound_nodes σ ≡ bound_nodes ρ
      → length b ≤ at + 1 → sum ≡ bound_nodes ρ
  unfolding encode_bound bound_nodes
  all_there sum ρ [] p t h = omega (arith, t)
  all_there sum ρ (m ∷ σ) p t h = absurd (let (n, x, rest) = first_entry m σ p in omega (arith, first_node m x, rest.size))

  pub all_summed : {at sum : ℕ} → Summed b at sum → length b ≤ at + 1 → NodesOf b sum
  all_summed w h = record { same = λ ρ e. let l = w.so_far ρ e in all_there _ ρ l.rest l.there l.total h }

pub ruleset sums = (none_summed, summed, all_summed)

-- The two numbers before the messages.
module _ (s t : List ℕ) (at place size : ℕ) {u : List ℕ} (v : t ≡ set (set s at (place % 256)) (at + 1) (place / 256))
    (w : u ≡ set (set t (at + 2) (size % 256)) (at + 2 + 1) (size / 256))
    (h : (at + 4 ≤ length s) × (place < 65536) × (size < 65536)) where
  first_within : Within at (at + 2) s t
  first_within = node_within s at place v (omega arith)

  second_within : Within (at + 2) (at + 2 + 2) t u
  second_within = node_within t (at + 2) size w (omega (arith, first_within.long))

  pub head_within : Within at (at + 4) s u
  head_within = one_after first_within second_within (omega arith) (omega arith) (omega arith) (omega arith)

  pub head_stands : HeadStands at place size u
  head_stands =
      let four : at + 2 + 2 ≡ at + 4 = omega arith in
      let number = kept {low = at + 2} (node_stands s at place v (omega arith)) (omega arith) second_within.below in
      let run = node_stands t (at + 2) size w (omega (arith, first_within.long)) in
      record { there = number ⨾ (rw four at run) }

pub ruleset heads = (head_within, head_stands)

-- And then the messages.
module _ (b s t : List ℕ) (at place : ℕ) {u : List ℕ} (v : HeadStands at place (length b) t) (k : Within at (at + 4) s t)
    (w : u ≡ paste t (at + 4) b (length b)) (h : (at + 4 + length b ≤ length s) × (length b < 65536) × (place < 65536)) where
  bound_within : Within (at + 4) (at + 4 + length b) t u
  bound_within = put_within t (at + 4) b w (omega (arith, k.long))

  pub record_within : Within at (at + 4 + length b) s u
  record_within = one_after k bound_within (omega arith) (omega arith) (omega arith) (omega arith)

  pub record_written : Written b place at u
  record_written =
      let numbers = kept {low = at + 4} v.there (omega arith) bound_within.below in
      record { there = numbers ⨾ put_stands t (at + 4) b w (omega (arith, k.long)) }

pub ruleset records = (record_within, record_written)
