-- How a traversal goes on from what it has come to ("Steps").
use Rattle.std.specs.Prelude.{◌≡◌, true, false, ℕ, ◌+◌, ◌≤◌}
use Rattle.state_record.specs.Room.{fresh_state}
use Rattle.state_progress.specs.Represented.{Over}
use Rattle.state_progress.specs.declared.progress.Progress.{Progress}

-- The state is as it was, or it begins where it did and ends no earlier.
pub record SameState (now r : Progress) : Type 0 where
  pub state : r.state ≡ now.state

pub record Extends (now r : Progress) : Type 0 where
  pub aliases : r.state.aliases ≡ now.state.aliases
  pub start : r.state.start ≡ now.state.start
  pub end : now.state.end ≤ r.state.end

-- A limit was met; a thread was found that hands over nothing. The state is as it was.
pub record Stopped (now r : Progress) : Type 0 where
  pub over : Over r
  pub state : r.state ≡ now.state

pub record Hits (now : Progress) (at k : ℕ) (r : Progress) : Type 0 where
  pub off : r.going ≡ false
  pub mark : r.mark ≡ at + 1
  pub next : r.names ≡ k
  pub sent : r.sent ≡ now.state.end
  pub state : r.state ≡ now.state

-- The next private name is another one, if the traversal goes on.
pub record Renamed (now : Progress) (n : ℕ) (r : Progress) : Type 0 where
  pub going : r.going ≡ now.going
  pub state : r.state ≡ now.state
  pub names : now.going ≡ true → r.names ≡ n
  pub same : now.going ≡ false → r ≡ now

-- Nothing was written yet: what is written stands from a position on.
pub record Begins (at k : ℕ) (r : Progress) : Type 0 where
  pub on : r.going ≡ true
  pub next : r.names ≡ k
  pub mark : r.mark ≡ 0
  pub state : r.state ≡ fresh_state at at 0
