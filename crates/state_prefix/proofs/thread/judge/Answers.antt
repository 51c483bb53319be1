-- `state_prefix::thread::judge` meets its contract.
use Rattle.std.proofs.Common.{rules}
use Rattle.state_progress.proofs.Laws.Progress.{same_states}
use Rattle.state_prefix.proofs.Laws.Offer.{judges}
use Rattle.state_prefix.proofs.thread.judge.Goals as goal

pub returns-in-Some-clause-judges : goal.returns-in-Some-clause-judges
returns-in-Some-clause-judges c = search (rules, same_states, judges)

pub returns-in-None-clause-judges : goal.returns-in-None-clause-judges
returns-in-None-clause-judges c = search (rules, same_states, judges)
