-- `step_offer::seek::seek` meets its contract. The loop has looked at the records before the position, in vain.
use Rattle.std.proofs.Common.{rules}
use Rattle.buffer.proofs.Laws.Buffer.{unchanged}
use Rattle.step_offer.proofs.Laws.Seek.{seekings}
use Rattle.state_progress.proofs.Laws.Progress.{to_ends}
use Rattle.step_offer.proofs.seek.seek.Goals as goal

pub returns-then-to-lt4-clause-seeks : goal.returns-then-to-lt4-clause-seeks
returns-then-to-lt4-clause-seeks c = search (rules, seekings, to_ends)

pub returns-then-not-going-clause-seeks : goal.returns-then-not-going-clause-seeks
returns-then-not-going-clause-seeks c = search (rules, seekings, to_ends)

pub loop-i-preserved : goal.loop-i-preserved
loop-i-preserved c = search (rules, unchanged, seekings, to_ends)

pub returns-clause-seeks : goal.returns-clause-seeks
returns-clause-seeks c = search (rules, seekings, to_ends)
