-- `step_visible::labelled::handed` meets its contract.
use Rattle.std.proofs.Common.{rules}
use Rattle.buffer.proofs.Laws.Buffer.{unchanged}
use Rattle.step_visible.proofs.Laws.Labelled.{hands, handed_within}
use Rattle.step_visible.proofs.labelled.handed.Goals as goal

pub returns-then-long-from-clause-hands_over : goal.returns-then-long-from-clause-hands_over
returns-then-long-from-clause-hands_over c = search (rules, unchanged, hands, handed_within)

pub returns-clause-hands_over : goal.returns-clause-hands_over
returns-clause-hands_over c = search (rules, unchanged, hands, handed_within)
