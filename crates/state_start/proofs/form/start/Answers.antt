-- `state_start::form::start` meets its contract: the traversal of the model, and its end.
use Rattle.std.proofs.Common.{rules}
use Rattle.state_start.proofs.Laws.Form.{start_formed}
use Rattle.state_start.proofs.form.start.Goals as goal

pub returns-clause-starts : goal.returns-clause-starts
returns-clause-starts c = search (rules, start_formed)
