-- `state_prefix::thread::offer` meets its contract: the channel, and then the message of an output.
use Rattle.std.proofs.Common.{rules, ◌≡◌, get_or}
use Rattle.state_prefix.proofs.Laws.Offer.{offers}
use Rattle.state_progress.proofs.Laws.Progress.{same_states, to_ends}
use Rattle.state_prefix.proofs.thread.offer.Goals as goal

pub returns-in-Ok-Input-clause-offers : goal.returns-in-Ok-Input-clause-offers
returns-in-Ok-Input-clause-offers c = search (rules, offers, same_states, to_ends)

pub returns-in_default-clause-offers : goal.returns-in_default-clause-offers
returns-in_default-clause-offers c =
    let other : get_or c.args.s.now c.args.at 0 ≡ 3 → ⊥ = λ e. search rules in
    search (rules, offers, same_states, to_ends, other)
