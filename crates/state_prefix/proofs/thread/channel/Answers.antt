-- `state_prefix::thread::channel` meets its contract: a channel that is worked and compared.
use Rattle.std.proofs.Common.{rules}
use Rattle.state_prefix.proofs.Laws.Hand.{reaches}
use Rattle.state_prefix.proofs.Laws.Seek.{channels, found_extends}
use Rattle.state_progress.proofs.Laws.Progress.{to_end}
use Rattle.state_prefix.proofs.thread.channel.Goals as goal

pub returns-then-agrees-clause-written_from : goal.returns-then-agrees-clause-written_from
returns-then-agrees-clause-written_from c = search (rules, reaches, channels, found_extends, to_end)

pub returns-then-agrees-clause-channels : goal.returns-then-agrees-clause-channels
returns-then-agrees-clause-channels c = search (rules, reaches, channels, found_extends)

pub returns-clause-channels : goal.returns-clause-channels
returns-clause-channels c = search (rules, reaches, channels, found_extends)

pub returns-in_default-clause-channels : goal.returns-in_default-clause-channels
returns-in_default-clause-channels c = search (rules, reaches, channels, found_extends)
