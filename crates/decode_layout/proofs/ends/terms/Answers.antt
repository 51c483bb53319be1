-- `decode_layout::ends::terms` meets its contract. The loop knows how many terms are left, and that they are few enough to count.
use Rattle.std.proofs.Common.{rules}
use Rattle.decode_layout.proofs.Laws.Standing.{too_many, stuck, step, done}
use Rattle.decode_layout.proofs.Laws.Ends.{terms}
use Rattle.decode_layout.proofs.Laws.Table.{one_number, two_at_most}
use Rattle.decode_layout.specs.Layout.{term_layouts}
use Rattle.decode_layout.proofs.ends.terms.Goals as goal

pub returns-then-s-count-clause-terms_end : goal.returns-then-s-count-clause-terms_end
returns-then-s-count-clause-terms_end c = search (rules, too_many terms, stuck terms, one_number, two_at_most term_layouts tt, step terms, done)

pub returns-then-s-i-clause-terms_end : goal.returns-then-s-i-clause-terms_end
returns-then-s-i-clause-terms_end c = search (rules, too_many terms, stuck terms, one_number, two_at_most term_layouts tt, step terms, done)

pub loop-left-preserved : goal.loop-left-preserved
loop-left-preserved c = search (rules, too_many terms, stuck terms, one_number, two_at_most term_layouts tt, step terms, done)

pub returns-clause-terms_end : goal.returns-clause-terms_end
returns-clause-terms_end c = search (rules, too_many terms, stuck terms, one_number, two_at_most term_layouts tt, step terms, done)
