-- Two terms worked one behind the other and compared by their runs ("Steps": if is decided).
use Rattle.std.specs.Prelude.{Option, Some, None}
use mathlib.Core.Path.{◌≡◌, ◌∙◌}
use mathlib.Core.Bool.{Bool}
use mathlib.Core.List.{List}
use Prim.Native.Nat.{ℕ, ◌+◌, ◌-◌, ◌≤◌}
use native.Mathlib.Omega.{arith}
use lib.ListN.{length, take, drop}
use Rattle.meaning.specs.Messages.Normal.{equal}
use Rattle.meaning.specs.Steps.State.{worked}
use Rattle.message_bytes.specs.Encoding.{encode_message}
use Rattle.buffer.specs.Buffer.{Within}
use Rattle.message_bytes.specs.Run.{alike}
use Rattle.message_term.specs.Work.{Works, Reaches}
use Rattle.message_binding.specs.Decide.{compared_of, Compares, SecondCompared}
use Rattle.message_term.specs.declared.work.Worked.{Worked}
use Rattle.message_binding.specs.declared.decide.Compared.{Compared}
use Rattle.message_bytes.proofs.Laws.Alike.{same_runs}
use Rattle.buffer.proofs.Laws.Buffer.{kept, part, wider, one_after}
use Rattle.message_term.proofs.Laws.Work.{said_over, said_small, still_bound}

-- The second, where the first stands.
module _ {s m m₁ : List ℕ} {at base mid : ℕ} {r₁ : Option Worked} (f : Works s at 8 m base mid r₁ m₁) (start : ℕ) where
  pub second_large : r₁ ≡ None → SecondCompared s at m base start mid None
  unfolding compared_of
  second_large e = record { exact = λ x u ρ p b q. rw (said_over _ _ _ (f.exact u ρ p b).answer e) }

  pub second_compared : {x : Worked} {c : Bool} → r₁ ≡ Some x → Within mid (mid + 4096) m m₁
      → c ≡ alike (take (mid - start) (drop start m₁)) (take (x.end - mid) (drop mid m₁))
      → SecondCompared s at m base start mid (Some (record { next = x.next; same = c }))
  unfolding compared_of
  second_compared {x} e w a = record {
    exact = λ y u ρ p b q.
        let g = f.exact u ρ p b in
        let (o, next, ends) = said_small _ _ _ g.answer e in
        let own : take (mid - start) (drop start m₁) ≡ encode_message y = part (kept {low = mid} q (omega arith) w.below) in
        let other : take (x.end - mid) (drop mid m₁) ≡ encode_message (worked ρ u) = rw ends (part (g.run o)) in
        rw (o, next, a, own, other, same_runs y (worked ρ u));
  }

-- How far it goes.
module _ {r₁ : Option Worked} {x : Worked} (mid : ℕ) (e : r₁ ≡ Some x) (h : Reaches mid 8 r₁) where
  pub last_above : mid ≤ x.end
  last_above = (h.there x e).0

  pub last_within : {m m₁ : List ℕ} → Within mid (mid + 4096) m m₁ → mid + 4096 ≤ length m → x.end ≤ length m₁
  last_within w l = let (low, high, one) = h.there x e in omega (arith, w.long)

  pub mid_within : {m m₁ : List ℕ} → Within mid (mid + 4096) m m₁ → mid + 4606 ≤ length m → x.end + 4096 ≤ length m₁
  mid_within w l = let (low, high, one) = h.there x e in omega (arith, w.long)

  pub both_within : {m m₁ m₂ : List ℕ} → Within mid (mid + 4096) m m₁ → Within x.end (x.end + 4096) m₁ m₂ → Within mid (mid + 4606) m m₂
  both_within w v = let (low, high, one) = h.there x e in one_after w v (omega arith) (omega arith) (omega arith) (omega arith)

pub large_within : {m m₁ : List ℕ} (start : ℕ) → Within start (start + 4096) m m₁ → Within start (start + 4606) m m₁
large_within start w = wider w (omega arith) (omega arith)

-- The first, and then both.
module _ {s m m₁ : List ℕ} {at base start : ℕ} {r₁ : Option Worked} (f : Works s at 8 m base start r₁ m₁) where
  pub first_large : r₁ ≡ None → Compares s at m base start None
  unfolding compared_of
  first_large e = record { exact = λ t u ρ p q b. rw (said_over _ _ _ (f.exact t ρ p b).answer e) }

  pub compared : {x : Worked} {c : Option Compared} → r₁ ≡ Some x → Within start (start + 4096) m m₁
      → SecondCompared s x.next m₁ base start x.end c → Compares s at m base start c
  unfolding equal
  compared {x} e w d = record {
    exact = λ t u ρ p q b.
        let g = f.exact t ρ p b in
        let (o, next, ends) = said_small _ _ _ g.answer e in
        let own = still_bound {new = x.end} b w (omega arith) (omega arith) in
        d.exact (worked ρ t) u ρ (rw (← next) at q) own (rw ends (g.run o)) ∙ rw o;
  }

pub ruleset seconds = (second_large, second_compared, last_above, last_within)

pub ruleset comparisons = (first_large, compared, last_above, mid_within, both_within, large_within)
