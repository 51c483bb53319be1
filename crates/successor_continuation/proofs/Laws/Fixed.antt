-- The private names of what follows an offer, where the index has their number ("Steps").
use Rattle.std.specs.Prelude.{Option, Some, None}
use mathlib.Core.Path.{◌≡◌}
use mathlib.Core.List.{List}
use Prim.Native.Nat.{ℕ, ◌-◌}
use native.Mathlib.Omega.{arith}
use Rattle.state_record.proofs.Laws.Process.{in_model}
use Rattle.state_task.specs.Place.{Rests}
use Rattle.state_task.specs.declared.task.CopyAt.{CopyAt}
use Rattle.state_head.specs.Count.{Fixed}
use Rattle.step_transition.specs.Outcome.{bound_after}
use Rattle.successor_continuation.specs.Counting.{FixedBehind, Counts, CountsIn}
use Rattle.successor_continuation.proofs.Laws.Standing.{rest_standing, offer_standing, copy_standing}

module _ {s : List ℕ} {mark n : ℕ} where
  pub open_behind : FixedBehind s mark n None
  open_behind = record { exact = λ e. absurd (let z : ◌≡◌ {A = ℕ} 0 1 = cc in omega arith) }

  pub fixed_behind : {to : ℕ} {r : Option ℕ} → (mark ≡ 0 → ⊥) → Rests s (mark - 1) to → Fixed s to n r → FixedBehind s mark n r
  fixed_behind some l f = record {
    exact = λ h p P ρ {at} same y.
        let here : mark - 1 ≡ at = omega arith in
        let (inner, z) = rest_standing p P y in
        let there = (rw here at l).exact p P y.stands in
        (rw there at f).exact h P ρ (in_model z);
  }

  -- So they are counted at once.
  module _ {argument m out : List ℕ} {at k last : ℕ} {r : Option ℕ} (f : FixedBehind s mark n r) (is : r ≡ Some last) where
    pub fixed_counted : Counts s argument at k m mark n out (Some last)
    fixed_counted = record {
      exact = λ t x before after a h i later small few listed e.
          let (j, d, o) = offer_standing t before after a h listed in f.exact is a.prefix a.rest (bound_after x a) e o.process;
    }

    pub fixed_counted_in : {c : CopyAt} → CountsIn s argument at k m c mark n out (Some last)
    fixed_counted_in {c} = record {
      exact = λ t x pre post w before after a h i small copied place again later excluded listed e.
          let o = copy_standing c t pre post w before after a h copied excluded listed in
          f.exact is a.prefix a.rest (bound_after x a) e o.process;
    }

pub ruleset fixed_ones = (open_behind, fixed_behind, fixed_counted, fixed_counted_in)
