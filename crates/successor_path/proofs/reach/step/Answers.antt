-- `successor_path::reach::step` meets its contract.
use Rattle.std.proofs.Common.{rules}
use Rattle.buffer.proofs.Laws.Buffer.{unchanged}
use Rattle.successor_path.proofs.Laws.ReachKinds.{absences}
use Rattle.successor_path.proofs.reach.step.Goals as goal

pub returns-then-s-way-clause-leads_past : goal.returns-then-s-way-clause-leads_past
returns-then-s-way-clause-leads_past c = search (rules, unchanged, absences)
