-- `state_head::head::step` meets its contract: an if, where it is neither a new nor a let.
use Rattle.std.proofs.Common.{rules}
use Rattle.state_head.proofs.Laws.Head.{is_if}
use Rattle.state_head.proofs.head.step.Goals as goal

pub returns-in_default-clause-descends_from : goal.returns-in_default-clause-descends_from
returns-in_default-clause-descends_from c = is_if (λ e. search rules) (λ e. search rules) c.branch-s.ensures.descends_if
