-- `successor_prefix::alone::around` meets its contract.
use Rattle.std.proofs.Common.{rules}
use Rattle.successor_prefix.proofs.Laws.Around.{around_so}
use Rattle.successor_prefix.proofs.alone.around.Goals as goal

pub returns-clause-around : goal.returns-clause-around
returns-clause-around c = search (rules, around_so)
