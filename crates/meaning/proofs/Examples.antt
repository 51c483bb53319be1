-- Every entry of the table of worked examples computes to what document 01 says.
use mathlib.Core.Path.{refl}
use mathlib.Core.List.{flat_map}
use Rattle.meaning.specs.Messages.Normal.{same, project, crypt, build, normal, equal}
use Rattle.meaning.specs.Bytes.Encoding.{encode_number, encode_term, encode_process, encode_formula}
use Rattle.meaning.specs.Bytes.Number.{and_then, second_byte, first_byte_of, number}
use Rattle.meaning.specs.Bytes.Reading.{kind, term_fields, term, process_fields, process, formula_fields, formula, whole, read_model, read_formula}
use Rattle.meaning.specs.Steps.State.{names, settle, start}
use Rattle.meaning.specs.Steps.Copies.{settled, result_of}
use Rattle.meaning.specs.Steps.Enumeration.{cuts, offers_at, offers_among, offers_of, offers, joined, silent_at, pairs_at, silent_among, two_copies, silent_of, silents, sent, taken, steps}
use Rattle.meaning.specs.Logic.Truth.{any_of}
use Rattle.meaning.specs.Judging.Limits.{over, over_settling, over_offers, bound_nodes, thread_nodes, over_state, over_recipes}
use Rattle.meaning.specs.Judging.Visits.{arrivals, meets}
use Rattle.meaning.specs.Judging.{some_of, judge, judge_model}
use Rattle.meaning.specs.Verdict.{judged, with_formula, with_second, with_first, input, verdict_on, verdict}
use Rattle.meaning.specs.Places.{none, ◌also◌}
use Rattle.meaning.specs.Examples.{ExamplesHold}

pub examples_hold : ExamplesHold
unfolding flat_map same project crypt build normal equal encode_number encode_term encode_process encode_formula and_then
    second_byte first_byte_of number kind term_fields term process_fields process formula_fields formula whole read_model read_formula
    names settle start settled result_of cuts offers_at offers_among offers_of offers joined silent_at pairs_at silent_among two_copies
    silent_of silents sent taken steps any_of over over_settling over_offers bound_nodes thread_nodes over_state over_recipes arrivals
    meets some_of judge judge_model judged with_formula with_second with_first input verdict_on verdict
examples_hold =
    refl also refl also refl also refl also refl also refl also refl also refl also refl also refl also refl also refl also
    refl also refl also refl also refl also refl also refl also refl also refl also refl also refl also refl also refl also
    refl also refl also refl also refl also refl also refl also refl also refl also refl also refl also refl also refl also
    refl also refl also refl also refl also refl also refl also refl also refl also refl also refl also refl also refl also
    refl also refl also refl also refl also refl also refl also refl also refl also refl also refl also refl also refl also
    refl also refl also refl also refl also refl also refl also refl also refl also refl also refl also refl also refl also
    refl also refl also refl also refl also refl also refl also refl also refl also refl also refl also refl also refl also
    refl also refl also refl also refl also refl also refl also refl also refl also refl also refl also refl also refl also
    refl also refl also refl also refl also refl also refl also refl also refl also refl also none
