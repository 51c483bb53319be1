-- `state_prefix::thread::handed` meets its contract: an input is found, or an output with its messages.
use Rattle.std.proofs.Common.{rules, ◌≡◌, get_or}
use Rattle.state_prefix.proofs.Laws.Seek.{found_extends}
use Rattle.state_prefix.proofs.Laws.Hand.{hands, reaches}
use Rattle.state_prefix.proofs.thread.handed.Goals as goal

pub returns-in-Ok-Input-clause-hands : goal.returns-in-Ok-Input-clause-hands
returns-in-Ok-Input-clause-hands c = search (rules, found_extends, hands, reaches)

pub returns-in-Some-clause-hands : goal.returns-in-Some-clause-hands
returns-in-Some-clause-hands c =
    let other : get_or c.args.s.now c.args.at 0 ≡ 3 → ⊥ = λ e. search rules in
    search (rules, found_extends, hands, reaches, other)

pub returns-in-None-clause-hands : goal.returns-in-None-clause-hands
returns-in-None-clause-hands c =
    let other : get_or c.args.s.now c.args.at 0 ≡ 3 → ⊥ = λ e. search rules in
    search (rules, found_extends, hands, reaches, other)
