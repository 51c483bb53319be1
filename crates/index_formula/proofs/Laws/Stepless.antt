-- A formula in which no step formula is has none on any path ("Bytes", the formula kinds).
use mathlib.Core.Path.{◌≡◌}
use mathlib.Core.Bool.{true, and-eq-true_iff, false≢true}
use native.Mathlib.Omega.{arith}
use Rattle.meaning.specs.Bytes.Formula.{Formula, equal, not, and, step}
use Rattle.meaning.specs.Bytes.Nesting.{step_depth}
use Rattle.index_formula.specs.Index.{is_stepless}

pub stepless_depth : (F : Formula) → is_stepless F ≡ true → step_depth F ≡ 0
unfolding is_stepless
stepless_depth (equal M N) t = omega arith
stepless_depth (not F) t = stepless_depth F t
stepless_depth (and F G) t =
    let (left, right) = (and-eq-true_iff (is_stepless F) (is_stepless G)).0 t in
    omega (arith, stepless_depth F left, stepless_depth G right)
stepless_depth (step a F) t = absurd (false≢true t)
