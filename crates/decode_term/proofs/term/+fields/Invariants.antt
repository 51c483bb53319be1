-- `decode_term::term::fields` meets its contract, term by term. The measure is the number of terms to come.
use Rattle.decode_term.proofs.term.+fields.Given as goal

-- proposed from what the function passes where it calls itself
abbrev pub decreases-fields : goal.decreases-fields
decreases-fields l = l.count
