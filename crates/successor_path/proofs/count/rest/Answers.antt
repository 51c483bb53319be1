-- `successor_path::count::rest` meets its contract.
use Rattle.std.proofs.Common.{rules, refl}
use Rattle.buffer.proofs.Laws.Buffer.{unchanged}
use Rattle.successor_path.proofs.Laws.Reach.{rests_counted, rest_input}
use Rattle.state_progress.proofs.Laws.Progress.{to_end_bound}
use Rattle.successor_path.proofs.count.rest.Goals as goal

pub returns-then-matches-clause-counts_rest : goal.returns-then-matches-clause-counts_rest
returns-then-matches-clause-counts_rest c = search (rules, unchanged, rests_counted, to_end_bound)

pub returns-clause-written_from : goal.returns-clause-written_from
returns-clause-written_from c = search (rules, rests_counted, to_end_bound)

pub returns-clause-counts_rest : goal.returns-clause-counts_rest
returns-clause-counts_rest c =
    rest_input c.rest-next.ensures refl (search rules) c.count-2.ensures.counts c.message-last.ensures.binds_run
    c.message-last.ensures.within c.message-last.ensures.value
