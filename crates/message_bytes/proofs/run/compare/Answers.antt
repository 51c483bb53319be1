-- `message_bytes::run::compare` meets its contract.
use Rattle.std.proofs.Common.{rules}
use Rattle.message_bytes.proofs.Laws.Alike.{alikes}
use Rattle.message_bytes.proofs.run.compare.Goals as goal

pub returns-clause-value : goal.returns-clause-value
returns-clause-value c = search (rules, alikes)

pub returns-clause-decides : goal.returns-clause-decides
returns-clause-decides c = search (rules, alikes)
