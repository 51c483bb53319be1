-- The path to a term: what it is for the parts of a node.
use Rattle.std.specs.Prelude.{◌-◌}
use Rattle.decode_term.specs.declared.term.Path.{Path}

abbrev pub term_below : Path → Path
term_below p = record { scope = p.scope; left = p.left - 1 }
