-- `successor_path::reach::new` meets its contract.
use Rattle.std.proofs.Common.{rules}
use Rattle.buffer.proofs.Laws.Buffer.{unchanged}
use Rattle.successor_path.proofs.Laws.ReachPart.{news_passed}
use Rattle.state_progress.proofs.Laws.Progress.{to_end}
use Rattle.successor_path.proofs.reach.new.Goals as goal

pub returns-then-names-gt-LAST_NAME-clause-new_leads_past :
    goal.returns-then-names-gt-LAST_NAME-clause-new_leads_past
returns-then-names-gt-LAST_NAME-clause-new_leads_past c = search (rules, unchanged, news_passed, to_end)

pub returns-clause-new_leads_past : goal.returns-clause-new_leads_past
returns-clause-new_leads_past c = search (rules, news_passed)
