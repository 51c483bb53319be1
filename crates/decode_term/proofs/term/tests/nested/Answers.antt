-- A test's path of terms: any number of nodes may be left on it.
use Rattle.decode_term.proofs.Laws.Terms.{terms}
use Rattle.decode_term.proofs.term.tests.nested.Goals as goal

pub read-requires : goal.read-requires
read-requires c = (tt, terms)
