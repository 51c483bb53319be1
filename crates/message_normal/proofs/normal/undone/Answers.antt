-- `message_normal::normal::undone` meets its contract, by what stands under the cipher and by the keys.
use Rattle.std.proofs.Common.{rules}
use Rattle.message_normal.proofs.Laws.Surviving.{ciphers}
use Rattle.message_normal.proofs.normal.undone.Goals as goal

pub returns-then-number-opposite-clause-undoes : goal.returns-then-number-opposite-clause-undoes
returns-then-number-opposite-clause-undoes c = search (rules, ciphers)

pub returns-then-compare-clause-undoes : goal.returns-then-compare-clause-undoes
returns-then-compare-clause-undoes c = search (rules, ciphers)

pub returns-clause-undoes : goal.returns-clause-undoes
returns-clause-undoes c = search (rules, ciphers)
