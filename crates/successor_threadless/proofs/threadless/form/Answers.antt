-- `successor_threadless::threadless::form` meets its contract.
use Rattle.std.proofs.Common.{rules}
use Rattle.state_progress.proofs.Laws.Progress.{to_ends}
use Rattle.successor_threadless.proofs.Laws.ThreadlessForm.{threadless_forms}
use Rattle.successor_threadless.proofs.threadless.form.Goals as goal

pub returns-then-fits-clause-forms_threadless : goal.returns-then-fits-clause-forms_threadless
returns-then-fits-clause-forms_threadless c = search (rules, to_ends, threadless_forms)
