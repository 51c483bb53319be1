-- Two bytes hold every private name that a traversal takes, and marks are those of outputs and inputs: what is left for the parts of a process
-- ("Steps").
use mathlib.Core.Path.{◌≡◌}
use mathlib.Core.List.{List, []}
use Prim.Native.Nat.{ℕ, ◌+◌, ◌≤◌}
use native.Mathlib.Omega.{arith}
use Rattle.meaning.specs.Bytes.Process.{Process, nil, new, act, if, let_in, par, repl}
use Rattle.meaning.specs.Places.{Every, none, ◌also◌}
use Rattle.meaning.proofs.Every.{every_map}
use Rattle.state_head.specs.News.{news, later_news}
use Rattle.state_task.specs.Machine.{opening}
use Rattle.state_head.specs.Traverse.{numbers_of, NamesFit, Meant}
use Rattle.state_task.specs.declared.task.Task.{Task}
use Rattle.state_task.specs.declared.task.Task.TheVariants.{Count, Judge, Settle, Seek, SeekIn, Find, Build, BuildIn}

-- What comes later is a part of the whole.
pub later_fewer : (P : Process) → later_news P ≤ news P
later_fewer nil = omega arith
later_fewer (new P) = omega (arith, later_fewer P)
later_fewer (act p P) = omega arith
later_fewer (if M N P Q) = omega (arith, later_fewer P, later_fewer Q)
later_fewer (let_in M P) = later_fewer P
later_fewer (par P Q) = omega (arith, later_fewer P, later_fewer Q)
later_fewer (repl P) = omega arith

-- Other numbers, for a process with fewer.
pub fewer : (P Q : Process) {ks : List ℕ} → later_news Q ≤ later_news P → Every (λ k. k + later_news P ≤ 32760) ks
    → Every (λ k. k + later_news Q ≤ 32760) ks
fewer P Q c f = every_map (λ k h. omega arith) f

pub fits_later : (P : Process) {ks : List ℕ} → Every (λ k. k + news P ≤ 32760) ks → Every (λ k. k + later_news P ≤ 32760) ks
fits_later P f = fewer (repl P) P (later_fewer P) f

-- A process of which no more names are left than of another.
pub fits_part : (T : Task) (n l : ℕ) (P Q : Process) → news Q + l ≤ news P + n → later_news Q ≤ later_news P → NamesFit T n P → NamesFit T l Q
fits_part T n l P Q h c f = record { own = omega (arith, f.own); others = fewer P Q c f.others }

-- Without numbers.
pub fits_none : (T : Task) (n : ℕ) (P : Process) → numbers_of T ≡ [] → n + news P ≤ 32760 → NamesFit T n P
fits_none T n P e h = record { own = h; others = rw e none }

-- The task inside a copy, where copies open at j.
pub fits_opening : (T : Task) (j k n : ℕ) (P : Process) → j + later_news P ≤ 32760 → k + news P ≤ 32760 → NamesFit T n (repl P)
    → NamesFit (opening T j) k P
unfolding opening
fits_opening T j k n P h l f = record { own = l; others = by_task T (fits_later P f.others) }
  where
    by_task : (T : Task) → Every (λ k. k + later_news P ≤ 32760) (numbers_of T) → Every (λ k. k + later_news P ≤ 32760) (numbers_of (opening T j))
    by_task Count e = e
    by_task (Judge k) e = h also none
    by_task Settle e = e
    by_task (Seek q k) e = h also none
    by_task (SeekIn q c k) (a also e) = h also e
    by_task (Find f past k) e = h also none
    by_task (Build b k) (a also e) = h also e
    by_task (BuildIn b c k) (a also e) = h also e

pub meant_opening : (s : List ℕ) (T : Task) (j : ℕ) → Meant s T → Meant s (opening T j)
unfolding opening
meant_opening s Count j f = f
meant_opening s (Judge k) j f = f
meant_opening s Settle j f = f
meant_opening s (Seek q k) j f = f
meant_opening s (SeekIn q c k) j f = f
meant_opening s (Find g past k) j f = f
meant_opening s (Build b k) j f = f
meant_opening s (BuildIn b c k) j f = f
