-- Another private name, and a thread that was found ("Steps").
use mathlib.Core.Path.{◌≡◌, refl, sym, ◌∙◌}
use mathlib.Core.Bool.{true, false, true≢false}
use Prim.Native.Nat.{ℕ, ◌+◌}
use Rattle.state_progress.specs.Progress.{Renamed, Hits}
use Rattle.state_progress.specs.declared.progress.Progress.{Progress}

module _ {now : Progress} {n : ℕ} where
  pub another_name : now.going ≡ true
      → Renamed now n (record { going = true; names = n; mark = 0; sent = 0; state = now.state })
  another_name e = record {
    going = sym e;
    state = refl;
    names = λ _. refl;
    same = λ f. absurd (true≢false (sym e ∙ f));
  }

  pub no_name : now.going ≡ false → Renamed now n now
  no_name e = record { going = refl; state = refl; names = λ f. absurd (true≢false (sym f ∙ e)); same = λ _. refl }

pub ruleset names = (another_name, no_name)

pub found_there : {now : Progress} {at k : ℕ}
    → Hits now at k (record { going = false; names = k; mark = at + 1; sent = now.state.end; state = now.state })
found_there = record { off = refl; mark = refl; next = refl; sent = refl; state = refl }
