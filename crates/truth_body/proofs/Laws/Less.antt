-- In any case a visit is taken off the budget ("Judging and its count").
use Rattle.std.specs.Prelude.{None}
use mathlib.Core.Path.{◌≡◌}
use mathlib.Core.Bool.{Bool}
use Prim.Native.Nat.{ℕ, ◌-◌, ◌≤◌, ◌<◌}
use native.Mathlib.Omega.{arith}
use Rattle.truth_body.specs.Judged.{done, Less}

pub less_spent : (left : ℕ) → Less left None
less_spent left = record { there = λ j e. absurd (let z : ◌≡◌ {A = ℕ} 0 1 = cc in omega arith) }

pub less_done : {left n : ℕ} {t l : Bool} → n < left → Less left (done t l n)
less_done {left} {n} h = record { there = λ j e. let same : n ≡ j.left = cc in omega arith }

pub less_charged : {left n : ℕ} {t l : Bool} → (n ≡ 0 → ⊥) → n ≤ left → Less left (done t l (left - n))
less_charged {left} {n} some h = let positive : 0 < n = omega arith in less_done (omega arith)

pub ruleset charged = (less_spent, less_charged)
