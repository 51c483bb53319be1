-- `state_start::loaded::traverse` meets its contract.
use Rattle.std.proofs.Common.{rules}
use Rattle.state_progress.proofs.Laws.Progress.{to_ends}
use Rattle.state_layout.proofs.Laws.Loaded.{thread_traversals}
use Rattle.state_start.proofs.loaded.traverse.Goals as goal

pub returns-in-Build-clause-traverses_thread : goal.returns-in-Build-clause-traverses_thread
returns-in-Build-clause-traverses_thread c = search (rules, to_ends, thread_traversals)

pub returns : goal.returns
returns c = search (rules, to_ends, thread_traversals)
