-- What a call of the traversal that seeks promises: it shows the course of the traversal of that task ("Steps").
use Rattle.std.specs.Prelude.{◌≡◌, true, false, List, ℕ}
use Rattle.state_record.specs.Room.{fresh_state}
use Rattle.state_progress.specs.Progress.{Renamed}
use Rattle.state_progress.specs.declared.progress.Progress.{Progress}
use Rattle.state_task.specs.declared.task.Quest.{Quest}
use Rattle.state_task.specs.declared.task.Task.TheVariants.{Seek}
use Rattle.state_head.specs.Traverse.{Traverses, TraversesIf, Opens}
use Rattle.state_search.specs.declared.seek.Sought.{Sought}
use Rattle.state_search.specs.declared.seek.Sought.TheVariants.{On, Ended}

-- A traversal that has come to nothing yet and hands messages over from the position to on; and what one has come to by its numbers.
abbrev pub begun_at : (to n : ℕ) → Progress
begun_at to n = record { going = true; names = n; mark = 0; sent = 0; state = fresh_state to to 0 }

abbrev pub reached : (to : ℕ) → Sought → Progress
reached to (On n) = begun_at to n
reached to (Ended n mark sent end) = record {
  going = false;
  names = n;
  mark = mark;
  sent = sent;
  state = record { aliases = to; start = to; end = end; threads = 0; nodes = 0; names = 0 };
}

-- The numbers of what a traversal has come to; and the same with another next private name, if the traversal goes on.
pub record Comes (now : Progress) (n : ℕ) (r : Sought) : Type 0 where
  pub on : now.going ≡ true → r ≡ On n
  pub ended : now.going ≡ false → r ≡ Ended now.names now.mark now.sent now.state.end

pub record GivesBack (now : Sought) (n : ℕ) (r : Sought) : Type 0 where
  pub renamed : (to : ℕ) → Renamed (reached to now) n (reached to r)

-- Whatever process stands there, the answer and the bytes after the call show the course of the traversal of it that seeks, copies opening at k;
-- the same, if that process is of a kind; and a copy of a repl thread.
pub record SeekTraverses (s argument : List ℕ) (at left : ℕ) (m : List ℕ) (end : ℕ) (q : Quest) (n k to : ℕ) (out : List ℕ) (r : Sought) (after : List ℕ)
    : Type 0 where
  pub traverses : Traverses s argument at left m end (Seek q k) out (begun_at to n) (reached to r) after

pub record SeekTraversesIf (kind : ℕ) (s argument : List ℕ) (at left : ℕ) (m : List ℕ) (end : ℕ) (q : Quest) (n k to : ℕ) (out : List ℕ) (r : Sought)
    (after : List ℕ) : Type 0 where
  pub traverses : TraversesIf kind s argument at left m end (Seek q k) out (begun_at to n) (reached to r) after

pub record SeekOpens (s argument : List ℕ) (at left : ℕ) (m : List ℕ) (end : ℕ) (q : Quest) (n k to : ℕ) (out : List ℕ) (r : Sought) (after : List ℕ)
    : Type 0 where
  pub opens : Opens (Seek q k) k s argument at left m end out (begun_at to n) (reached to r) after
