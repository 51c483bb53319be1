-- No slice of bytes is refused for a name ("Turned back for the input", 5; request 2.2): a number that is read has two bytes at most.
use native.Mathlib.Omega.{arith}
use Rattle.meaning.specs.Bytes.Refusal.{name_over}
use Rattle.meaning.specs.Theorems.{NeverNameRange}
use Rattle.meaning.proofs.Bytes.Reader.{of_found}
use Rattle.meaning.proofs.Bytes.Reading.Number.{number_sound}

pub never_name_range : NeverNameRange
never_name_range s bytes root place (name_over d e h) = omega (arith, (of_found (number_sound bytes place) e).1)
