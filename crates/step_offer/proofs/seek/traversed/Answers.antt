-- `step_offer::seek::traversed` meets its contract.
use Rattle.std.proofs.Common.{rules}
use Rattle.state_progress.proofs.Laws.Progress.{to_ends}
use Rattle.step_offer.proofs.Laws.Look.{looks_traversed}
use Rattle.step_offer.proofs.seek.traversed.Goals as goal

pub returns-clause-looks : goal.returns-clause-looks
returns-clause-looks c = search (rules, to_ends, looks_traversed)
