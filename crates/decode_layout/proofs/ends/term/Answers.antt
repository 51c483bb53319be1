-- `decode_layout::ends::term` meets its contract: one term is a row of one.
use Rattle.std.proofs.Common.{rules}
use Rattle.decode_layout.proofs.Laws.Standing.{alone}
use Rattle.decode_layout.proofs.ends.term.Goals as goal

pub returns-clause-term_end : goal.returns-clause-term_end
returns-clause-term_end c = search (rules, alone)
