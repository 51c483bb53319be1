-- `decode_layout::ends::numbers` meets its contract: a number ends where its bytes say.
use Rattle.std.proofs.Common.{rules}
use Rattle.decode_layout.proofs.Laws.Ends.{number_ends}
use Rattle.decode_layout.proofs.ends.numbers.Goals as goal

pub returns-clause-lower_bound : goal.returns-clause-lower_bound
returns-clause-lower_bound c = search (rules, number_ends)

pub returns-clause-numbers_end : goal.returns-clause-numbers_end
returns-clause-numbers_end c = search (rules, number_ends)
