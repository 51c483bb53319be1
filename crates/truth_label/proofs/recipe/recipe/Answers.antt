-- `truth_label::recipe::recipe` meets its contract: its message is copied from the work bytes to the front of a slice.
use Rattle.std.proofs.Common.{rules}
use Rattle.truth_label.proofs.Laws.Recipe.{recipes}
use Rattle.truth_label.proofs.recipe.recipe.Goals as goal

pub returns-clause-recipes : goal.returns-clause-recipes
returns-clause-recipes c = search (rules, recipes)

pub returns-in_err-worked-clause-recipes : goal.returns-in_err-worked-clause-recipes
returns-in_err-worked-clause-recipes c = search (rules, recipes)
