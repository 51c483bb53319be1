-- The path to the parts of a formula: a step formula is left for it, and aliases and step formulas left are as few as before.
use Rattle.std.proofs.Common.{rules}
use Rattle.decode_slice.proofs.Laws.Scope.{step_left, still_few}
use Rattle.decode_slice.proofs.formula.PathSort.to_parts.Goals as goal

pub overflow_sub-steps : goal.overflow_sub-steps
overflow_sub-steps c = search (rules, step_left)

pub returns-clause-still : goal.returns-clause-still
returns-clause-still c = search (rules, still_few)
