-- `verdict_state::models::both` meets its contract, by what each judging comes to.
use Rattle.std.proofs.Common.{rules}
use Rattle.verdict_state.proofs.Laws.Judged.{budgets, judgings}
use Rattle.verdict_state.proofs.models.both.Goals as goal

pub returns-clause-judges_both_indexed :
    goal.returns-clause-judges_both_indexed
returns-clause-judges_both_indexed c = search (rules, budgets, judgings)

pub returns-in_default-judge-clause-judges_both_indexed :
    goal.returns-in_default-judge-clause-judges_both_indexed
returns-in_default-judge-clause-judges_both_indexed c = search (rules, budgets, judgings)

pub returns-in_default-clause-judges_both_indexed : goal.returns-in_default-clause-judges_both_indexed
returns-in_default-clause-judges_both_indexed c = search (rules, budgets, judgings)
