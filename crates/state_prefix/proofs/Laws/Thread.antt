-- A thread that is written, and judged ("Steps").
use mathlib.Core.Path.{◌≡◌}
use mathlib.Core.Bool.{true, false}
use mathlib.Core.List.{List}
use Prim.Native.Nat.{ℕ, ◌≤◌}
use lib.ListN.{length}
use Rattle.meaning.specs.Bytes.Process.{Prefix, Process}
use Rattle.meaning.specs.Steps.State.{Bound, act}
use Rattle.message_term.specs.Bound.{BoundTo}
use Rattle.state_record.specs.Place.{ProcessAt}
use Rattle.state_progress.specs.TraversalResult.{Accumulated, push}
use Rattle.state_progress.specs.Represented.{Represents, RepresentsResult}
use Rattle.state_progress.specs.Written.{Pushes}
use Rattle.state_task.specs.Thread.{Offers, Settles}
use Rattle.state_progress.specs.declared.progress.Progress.{Progress}
use Rattle.state_progress.proofs.Laws.Written.{stands_there, no_further, goes_further}
use Rattle.index_process.specs.Index.{ShortModel}

-- It is written, and then what it offers is judged.
module _ {s m out after : List ℕ} {at end : ℕ} {now pushed : Progress} (w : Pushes m end at out now pushed after)
    (h : ShortModel s) where
  written_as : (p : Prefix) (P : Process) (ρ : Bound) (g : Accumulated) {left next : ℕ} → left ≤ 64
      → ProcessAt s at left (length ρ) (Process.act p P) next → BoundTo m 0 ρ end → Represents s out now g
      → RepresentsResult s after pushed (push at (act ρ p P) g)
  written_as p P ρ g l q b d = w.exact s (act ρ p P) g b (stands_there (act ρ p P) h l q b.normal) d

  pub settles_none : pushed.going ≡ false → Settles s at m end out now pushed after
  settles_none off = record {
    exact = λ p P ρ g l q b d. no_further s after pushed (push at (act ρ p P) g) _ (written_as p P ρ g l q b d) off;
  }

  pub settles_thread : {r : Progress} → pushed.going ≡ true → Offers s at m end pushed r → Settles s at m end out now r after
  settles_thread {r} on f = record {
    exact = λ p P ρ g l q b d.
        goes_further s after r (push at (act ρ p P) g) _ (written_as p P ρ g l q b d) on (λ h e v. f.exact p P ρ h after q b v);
  }

pub ruleset settlings = (settles_none, settles_thread)
