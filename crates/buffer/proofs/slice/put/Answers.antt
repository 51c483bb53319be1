-- `buffer::slice::put` meets its contract. The loop has copied as many bytes as it has gone round.
use Rattle.std.proofs.Common.{rules}
use Rattle.buffer.proofs.Laws.Copy.{puts}
use Rattle.buffer.proofs.slice.put.Goals as goal

pub loop-i-init : goal.loop-i-init
loop-i-init c = search (rules, puts)

pub loop-i-preserved : goal.loop-i-preserved
loop-i-preserved c = search (rules, puts)

pub returns : goal.returns
returns c = search (rules, puts)
