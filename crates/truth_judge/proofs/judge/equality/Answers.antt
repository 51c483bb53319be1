-- `truth_judge::judge::equality` meets its contract.
use Rattle.std.proofs.Common.{rules}
use Rattle.truth_judge.proofs.Laws.Visit.{equatings}
use Rattle.truth_judge.proofs.judge.equality.Goals as goal

pub returns-in-Some-clause-equates : goal.returns-in-Some-clause-equates
returns-in-Some-clause-equates c = search (rules, equatings)

pub returns-in-None-clause-equates : goal.returns-in-None-clause-equates
returns-in-None-clause-equates c = search (rules, equatings)
