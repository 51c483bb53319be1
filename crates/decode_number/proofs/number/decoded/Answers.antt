-- `decode_number::number::decoded` meets its contract: each return by the bytes that are there.
use Rattle.std.proofs.Common.{rules}
use Rattle.decode_number.proofs.Laws.Decoding.{decodings}
use Rattle.decode_number.proofs.number.decoded.Goals as goal

pub returns-then-s-at-clause-result_value : goal.returns-then-s-at-clause-result_value
returns-then-s-at-clause-result_value c = search (rules, decodings)

pub returns-then-s-at-clause-result_value_2 : goal.returns-then-s-at-clause-result_value_2
returns-then-s-at-clause-result_value_2 c = search (rules, decodings)

pub returns-then-s-at-clause-at_value : goal.returns-then-s-at-clause-at_value
returns-then-s-at-clause-at_value c = search (rules, decodings)

pub returns-then-s-place-clause-result_value : goal.returns-then-s-place-clause-result_value
returns-then-s-place-clause-result_value c = search (rules, decodings)

pub returns-then-s-place-clause-result_value_2 : goal.returns-then-s-place-clause-result_value_2
returns-then-s-place-clause-result_value_2 c = search (rules, decodings)

pub returns-then-s-place-clause-at_value : goal.returns-then-s-place-clause-at_value
returns-then-s-place-clause-at_value c = search (rules, decodings)

pub returns-clause-result_value : goal.returns-clause-result_value
returns-clause-result_value c = search (rules, decodings)

pub returns-clause-result_value_2 : goal.returns-clause-result_value_2
returns-clause-result_value_2 c = search (rules, decodings)

pub returns-clause-at_value : goal.returns-clause-at_value
returns-clause-at_value c = search (rules, decodings)
