-- `verdict_state::models::within` meets its contract: each return by the law for the tests before it.
use Rattle.std.proofs.Common.{rules}
use Rattle.verdict_state.proofs.Laws.Judged.{ranks}
use Rattle.verdict_state.proofs.models.within.Goals as goal

pub returns-then-limited : goal.returns-then-limited
returns-then-limited c = search (rules, ranks)

pub returns-then-not-first : goal.returns-then-not-first
returns-then-not-first c = search (rules, ranks)

pub returns-then-second : goal.returns-then-second
returns-then-second c = search (rules, ranks)

pub returns : goal.returns
returns c = search (rules, ranks)
