-- `step_offer::seek::alone` meets its contract.
use Rattle.std.proofs.Common.{rules}
use Rattle.state_progress.proofs.Laws.Progress.{to_ends}
use Rattle.step_offer.proofs.Laws.Look.{alones}
use Rattle.step_offer.proofs.seek.alone.Goals as goal

pub returns-then-m-end-lt-REACH-clause-alone : goal.returns-then-m-end-lt-REACH-clause-alone
returns-then-m-end-lt-REACH-clause-alone c = search (rules, to_ends, alones)

pub returns-clause-alone : goal.returns-clause-alone
returns-clause-alone c = search (rules, to_ends, alones)
