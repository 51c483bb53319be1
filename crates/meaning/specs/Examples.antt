-- The table of worked examples: the cases of document 01 that are marked, and further ones on points that are easily mistaken.
-- The numbers were worked out from document 01, apart from these definitions.
pub mod Entry
pub mod Material
pub mod Cases
pub mod Bytes
pub mod Names
pub mod Steps
pub mod Limits
use Rattle.std.specs.Prelude.{List, ◌++◌}
use Rattle.meaning.specs.Places.{Every}
use Rattle.meaning.specs.Examples.Entry as Entries
use Rattle.meaning.specs.Examples.Cases.{cases}
use Rattle.meaning.specs.Examples.Bytes.{bytes}
use Rattle.meaning.specs.Examples.Names.{names}
use Rattle.meaning.specs.Examples.Steps.{steps}
use Rattle.meaning.specs.Examples.Limits.{limits}

abbrev pub table : List Entries.Entry
table = cases ++ bytes ++ names ++ steps ++ limits

abbrev pub ExamplesHold : Type 0
ExamplesHold = Every Entries.Holds table
