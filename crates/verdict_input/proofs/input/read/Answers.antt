-- `verdict_input::input::read` meets its contract: the buffer first, and then the slices in their order.
use Rattle.std.proofs.Common.{rules}
use Rattle.verdict_input.proofs.Laws.Place.{placed}
use Rattle.verdict_input.proofs.Laws.Input.{earlier, ordered}
use Rattle.verdict_input.proofs.input.read.Goals as goal

pub slice-one-requires : goal.slice-one-requires
slice-one-requires c = search (rules, placed)

pub slice-two-requires : goal.slice-two-requires
slice-two-requires c = search (rules, placed)

pub slice-three-requires : goal.slice-three-requires
slice-three-requires c = search (rules, placed)

pub returns : goal.returns
returns c =
    let first = earlier c.buffer.result c.and-2.result in
    let second = earlier c.slice-one.result c.and.result in
    let third = earlier c.slice-two.result c.slice-three.result in
    ordered _ _ _ _ (cc)
