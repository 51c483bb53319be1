-- The four numbers of an answer ("Turned back for the input"; "Turned back for the state").
use Rattle.std.specs.Prelude.{ℕ}
use Rattle.meaning.specs.Verdict.{Answer as Numbers}
use Rattle.verdict_input.specs.declared.answer.Answer.{Answer}
use Rattle.verdict_input.specs.declared.outcome.Outcome.{Outcome}
use Rattle.verdict_input.specs.declared.outcome.Outcome.TheVariants.{Accepted, BudgetSpent, LimitMet, FalseOfFirst, TrueOfBoth}

-- The code's answer as the verdict's.
abbrev pub numbers : Answer → Numbers
numbers a = record { result = a.result; slice = a.slice; place = a.place; count = a.count }

-- Turned back for the input: the count is 0.
abbrev pub turned_back : (result slice place : ℕ) → Numbers
turned_back result slice place = record { result = result; slice = slice; place = place; count = 0 }

-- The number of each outcome.
abbrev pub outcome_number : Outcome → ℕ
outcome_number Accepted = 0
outcome_number BudgetSpent = 10
outcome_number LimitMet = 11
outcome_number FalseOfFirst = 12
outcome_number TrueOfBoth = 13
