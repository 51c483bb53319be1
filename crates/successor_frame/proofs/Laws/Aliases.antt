-- The aliases of a state that is reached: copied, one appended, and their nodes counted ("Steps").
use mathlib.Core.Path.{◌≡◌, refl, subst}
use mathlib.Core.Bool.{Bool, true, false}
use mathlib.Core.Logic.{◌⊎◌, inr}
use mathlib.Core.List.{List}
use Prim.Native.Nat.{ℕ, ◌+◌, ◌-◌, ◌≤◌, ◌<◌}
use native.Mathlib.Omega.{arith}
use lib.ListN.{length, take, drop}
use lib.Seq.{paste}
use Rattle.meaning.specs.Bytes.Standing.{Stands}
use Rattle.meaning.specs.Places.{none}
use Rattle.meaning.specs.Judging.Limits.{bound_nodes}
use Rattle.buffer.specs.Buffer.{Within}
use Rattle.buffer.proofs.Laws.Buffer.{part, copy_within, copy_stands, wider}
use Rattle.message_term.specs.Bound.{encode_bound, BindsRun}
use Rattle.message_term.proofs.Theorems.{bound_further}
use Rattle.state_record.specs.Record.{encode_records, NodesOf}
use Rattle.state_record.specs.Room.{fresh_state}
use Rattle.state_record.specs.declared.state.State.{State}
use Rattle.state_progress.specs.declared.progress.Progress.{Progress}
use Rattle.successor_frame.specs.Aliases.{appended, Copied, Appended, StartsAt, CountsNodes, Carries}

-- Nothing is copied where the positions are those of no state, or the bytes are too few.
module _ {st : State} {out : List ℕ} where
  pub copied_backward : st.start < st.aliases → Copied st out st.end out
  copied_backward h = record { exact = λ ρ b l k. absurd (omega (arith, b.stands.size)) }

  pub copied_inside : st.end < st.start → Copied st out st.end out
  copied_inside h = record { exact = λ ρ b l k. absurd (omega arith) }

  pub copied_outside : length out < st.end → Copied st out st.end out
  copied_outside h = record { exact = λ ρ b l k. absurd (omega arith) }

  pub copied_short : length out - st.end < st.start - st.aliases → Copied st out st.end out
  copied_short h = record { exact = λ ρ b l k. absurd (omega arith) }

-- Otherwise they stand behind the state too.
module _ (st : State) (out : List ℕ) {after : List ℕ} (e : after ≡ paste out st.end (drop st.aliases out) (st.start - st.aliases))
    (h : st.aliases ≤ st.start) (l : st.start ≤ st.end) (o : st.end ≤ length out)
    (k : st.start - st.aliases ≤ length out - st.end) where
  pub copied_behind : Copied st out (st.end + (st.start - st.aliases)) after
  copied_behind = record {
    exact = λ ρ b i j.
        let ends : st.start ≡ st.aliases + (st.start - st.aliases) = omega arith in
        let there = subst (λ (n : ℕ). Stands out st.aliases (encode_bound ρ) n) ends b.stands in
        let stands = copy_stands out st.end st.aliases (st.start - st.aliases) e (omega arith) (omega arith) there in
        (record { stands = stands; few = b.few; normal = b.normal }, refl);
  }

  pub copied_within : Within st.end (length out) out after
  copied_within =
      wider (copy_within out st.end st.aliases (st.start - st.aliases) e (omega arith) (omega arith)) (omega arith) (omega arith)

pub ruleset copyings = (copied_backward, copied_inside, copied_outside, copied_short, copied_behind, copied_within)

-- What the copy asks for.
pub asks_from : (from start end long : ℕ) → from ≤ start → start ≤ end → end ≤ long → from + (start - from) ≤ long
asks_from from start end long h l o = omega arith

pub asks_to : (size end long : ℕ) → size ≤ long - end → end ≤ long → end + size ≤ long
asks_to size end long k o = omega arith

pub asks_apart : (from start end : ℕ) → from ≤ start → start ≤ end → (end ≤ from) ⊎ (from + (start - from) ≤ end)
asks_apart from start end h l = inr (omega arith)

-- The message of an output is bound behind them; any other step appends nothing.
module _ {message out : List ℕ} {end : ℕ} where
  pub appended_large : {sends : Bool} → 510 < length message → Appended sends message out end end out
  appended_large h = record { exact = λ begin ρ x b k d l. absurd (omega (arith, d.small)) }

  pub appended_outside : {sends : Bool} → length out < end → Appended sends message out end end out
  appended_outside h = record { exact = λ begin ρ x b k d l. absurd (omega arith) }

  pub appended_short : {sends : Bool} → length out - end < 512 → Appended sends message out end end out
  appended_short h = record { exact = λ begin ρ x b k d l. absurd (omega arith) }

  pub appended_not : {sends : Bool} → sends ≡ false → Appended sends message out end end out
  appended_not e = record { exact = λ begin ρ x b k d l. rw e (b, omega arith) }

  pub appended_more : {sends : Bool} {last : ℕ} {after : List ℕ} → sends ≡ true → last ≡ end + 2 + length message
      → BindsRun message out end last after → Appended sends message out end last after
  appended_more {last = last} {after} e i w = record {
    exact = λ begin ρ x b k d l.
        rw e (bound_further out after begin end last ρ x b d.normal k (w.exact x d.same), omega (arith, d.small));
  }

pub ruleset appendings = (appended_large, appended_outside, appended_short, appended_not, appended_more)

-- The nodes of the messages that stand from a position to another.
module _ {begin start n : ℕ} {out : List ℕ} {r : Progress} where
  pub counted_backward : start < begin → CountsNodes begin start n out r
  counted_backward h = record { exact = λ s σ b l. absurd (omega (arith, b.stands.size)) }

  pub counted_outside : length out < start → CountsNodes begin start n out r
  counted_outside h = record { exact = λ s σ b l. absurd (omega arith) }

  module _ {v : ℕ} (w : NodesOf (take (start - begin) (drop begin out)) v) where
    pub counted_over : 1024 < v → StartsAt false begin start v n r → CountsNodes begin start n out r
    counted_over h f = record {
      exact = λ s σ b l. (λ i. f.goes, λ i. absurd (omega (arith, w.same σ (part b.stands))));
    }

    pub counted_begun : v ≤ 1024 → StartsAt true begin start v n r → CountsNodes begin start n out r
    unfolding encode_records
    counted_begun h f = record {
      exact = λ s σ b l.
          let same : v ≡ bound_nodes σ = w.same σ (part b.stands) in
          let e : r.state ≡ fresh_state begin start v = f.fresh in (
            λ i. absurd (omega arith),
            λ i. record {
              aliases = rw e;
              bound = rw e b;
              shows = record {
                on = f.goes;
                names = f.next;
                threads = rw e;
                nodes = rw e same;
                records = rw e (record { bytes = refl; size = omega arith });
                size = rw e (omega arith);
                few = omega arith;
                light = i;
                room = rw e l;
                standing = none;
              };
              above = rw e (omega (arith, b.stands.size));
            },
          );
    }

pub ruleset countings = (counted_backward, counted_outside, counted_over, counted_begun)

-- A state that is begun ends where its aliases do.
pub starts_end : {on : Bool} {begin start nodes n : ℕ} (r : Progress) → StartsAt on begin start nodes n r → r.state.end ≡ start
starts_end r f = let e = f.fresh in rw e

-- One after the other.
pub carried : {st : State} {message out out₁ out₂ : List ℕ} {sends : Bool} {n end start low high low₁ high₁ : ℕ} {r : Progress}
    → Within low high out out₁ → Within low₁ high₁ out₁ out₂ → Copied st out end out₁ → Appended sends message out₁ end start out₂
    → CountsNodes st.end start n out₂ r → Carries st message sends n out r out₂
carried {st} {sends = sends} w v c a f = record {
  exact = λ s ρ x b l k d room.
      let (bound, ends) = c.exact ρ b l (omega arith) in
      let (further, near) = a.exact st.end ρ x bound k d (omega (arith, w.long)) in
      f.exact s (appended sends ρ x) further (omega (arith, w.long, v.long));
}

-- What is begun ends behind the state.
pub carried_behind : {a b c d : ℕ} → a ≤ b → b ≤ c → d ≡ c → a ≤ d
carried_behind h l e = omega arith
