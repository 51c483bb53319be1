-- `state_head::head::new` meets its contract: one message more is bound, a private name.
use Rattle.std.proofs.Common.{rules}
use Rattle.state_head.proofs.Laws.HeadKinds.{news_down}
use Rattle.state_head.proofs.head.new.Goals as goal

pub returns-then-names-gt-LAST_NAME-clause-descends_if :
    goal.returns-then-names-gt-LAST_NAME-clause-descends_if
returns-then-names-gt-LAST_NAME-clause-descends_if c = search (rules, news_down)

pub returns-clause-descends_if : goal.returns-clause-descends_if
returns-clause-descends_if c = search (rules, news_down)
