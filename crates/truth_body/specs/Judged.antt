-- What judging comes to with a budget of visits ("Judging and its count"; "Turned back for the state", 10). The count of `meaning` has no
-- bound; the code counts the budget down, and stops where the count is over it.
use Rattle.std.specs.Prelude.{◌≡◌, Bool, true, false, Option, Some, None, ℕ, ◌-◌, ◌<◌, ltb}
use Rattle.meaning.specs.Judging.{Judgement}
use Rattle.truth_body.specs.declared.judged.Judged.{Judged}

-- The formula is true or not, a visit met a limit or none did, and so much is left of the budget.
abbrev pub done : (truth limited : Bool) (left : ℕ) → Option Judged
done truth limited left = Some (record { truth = truth; limited = limited; left = left })

-- A visit that met a limit.
abbrev pub at_limit : (left : ℕ) → Judged
at_limit left = record { truth = false; limited = true; left = left }

unfoldable pub judged_of : (left : ℕ) → Judgement → Option Judged
judged_of left j = elim (ltb left j.count) [ true ↦ None | false ↦ done j.truth j.limited (left - j.count) ]

-- In any case a visit is taken off the budget, unless it is spent.
pub record Less (left : ℕ) (r : Option Judged) : Type 0 where
  pub there : (j : Judged) → r ≡ Some j → j.left < left
