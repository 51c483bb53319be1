-- The task inside a copy ("Steps").
use mathlib.Core.Path.{◌≡◌}
use mathlib.Core.Bool.{Bool}
use Prim.Native.Nat.{ℕ}
use Rattle.state_task.specs.Machine.{opening}
use Rattle.state_task.specs.declared.task.Task.{Task}
use Rattle.state_task.specs.declared.task.Task.TheVariants.{Count, Judge, Settle, Seek, SeekIn, Find, Build, BuildIn}
use Rattle.state_task.specs.declared.task.Quest.{Quest}
use Rattle.state_task.specs.declared.task.CopyAt.{CopyAt}
use Rattle.state_task.specs.declared.task.Plan.{Plan}

module _ {T : Task} (n : ℕ) where
  pub opens_count : T ≡ Count → Count ≡ opening T n
  unfolding opening
  opens_count e = rw e

  pub opens_judge : {k : ℕ} → T ≡ Judge k → Judge n ≡ opening T n
  unfolding opening
  opens_judge e = rw e

  pub opens_settle : T ≡ Settle → Settle ≡ opening T n
  unfolding opening
  opens_settle e = rw e

  pub opens_seek : {q : Quest} {k : ℕ} → T ≡ Seek q k → Seek q n ≡ opening T n
  unfolding opening
  opens_seek e = rw e

  pub opens_seek_in : {q : Quest} {c : CopyAt} {k : ℕ} → T ≡ SeekIn q c k → SeekIn q c n ≡ opening T n
  unfolding opening
  opens_seek_in e = rw e

  pub opens_find : {f k : ℕ} {past : Bool} → T ≡ Find f past k → Find f past n ≡ opening T n
  unfolding opening
  opens_find e = rw e

  pub opens_build : {b : Plan} {k : ℕ} → T ≡ Build b k → Build b n ≡ opening T n
  unfolding opening
  opens_build e = rw e

  pub opens_build_in : {b : Plan} {c : CopyAt} {k : ℕ} → T ≡ BuildIn b c k → BuildIn b c n ≡ opening T n
  unfolding opening
  opens_build_in e = rw e

pub ruleset openings =
    (opens_count, opens_judge, opens_settle, opens_seek, opens_seek_in, opens_find, opens_build, opens_build_in)
