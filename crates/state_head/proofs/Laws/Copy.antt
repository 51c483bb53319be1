-- A copy of a repl thread that is opened ("Steps").
use Rattle.std.specs.Prelude.{Option, Some, None}
use mathlib.Core.Path.{◌≡◌}
use mathlib.Core.List.{List}
use Prim.Native.Nat.{ℕ, ◌+◌, ◌-◌, ◌≤◌}
use native.Mathlib.Omega.{arith}
use Rattle.meaning.specs.Messages.Term.{Message}
use Rattle.meaning.specs.Bytes.Process.{Process}
use Rattle.meaning.specs.Steps.State.{Bound}
use Rattle.buffer.specs.Buffer.{Within}
use Rattle.state_head.specs.News.{news, later_news}
use Rattle.state_progress.specs.TraversalResult.{Accumulated, TraversalResult, going, over_limit, found, named, returned}
use Rattle.state_task.specs.Machine.{opening, opened}
use Rattle.state_head.specs.Traversal.{go}
use Rattle.state_progress.specs.Represented.{RepresentsResult}
use Rattle.state_head.specs.Traverse.{NamesFit, Meant, Ready, Traverses, Returns, Opens}
use Rattle.state_head.specs.Count.{count_of, Counts}
use Rattle.state_progress.specs.Progress.{Stopped, Renamed}
use Rattle.state_task.specs.declared.task.Task.{Task}
use Rattle.state_progress.specs.declared.progress.Progress.{Progress}
use Rattle.state_record.proofs.Laws.Process.{of_repl}
use Rattle.state_progress.proofs.Laws.Progress.{renamed_shows}
use Rattle.state_task.proofs.Laws.Bound.{bound_still}
use Rattle.state_head.proofs.Laws.Fits.{fits_opening, meant_opening}
use Rattle.state_head.proofs.Laws.TraversalResult.{names-fit}
use Rattle.state_head.proofs.Laws.Counting.{counted}
use Rattle.state_head.proofs.Laws.Count.{counted_over, counted_names}

-- The names are given back.
pub names_back : {s argument m out after : List ℕ} {at left end before : ℕ} {T : Task} {now done r : Progress}
    → Traverses s argument at left m end T out now done after → Renamed done before r → Returns before s argument at left m end T out now r after
names_back {s} {after = after} {at} {before = before} {T} {done = done} {r} w n = record {
  exact = λ P x ρ g y v. last (go P T x at ρ g) (w.traverses.exact P x ρ g y v);
}
  where
    last : (c : TraversalResult) → RepresentsResult s after done c → RepresentsResult s after r (returned before c)
    last (going h) v = renamed_shows before v n
    last over_limit d = rw (n.same d.off) d
    last (found x k ms) d = rw (n.same d.off) d

-- The process of a repl thread, for a task of its own.
pub copy_ready : {s argument m m₁ : List ℕ} {at left end high : ℕ} {T : Task} {x : Message} {ρ : Bound} {g : Accumulated} (P : Process) (U : Task)
    (h : Accumulated) → Ready s argument at left m end T (Process.repl P) x ρ g → Within end high m m₁ → NamesFit U h.names P → Meant s U
    → Ready s argument (at + 1) (left - 1) m₁ end U P x ρ h
copy_ready P U h y k f u = record {
  next = y.next;
  process = of_repl P y.process;
  shallow = omega (arith, y.shallow);
  short = y.short;
  labelled = y.labelled;
  small = y.small;
  normal = y.normal;
  bound = bound_still y.bound k;
  room = omega (arith, y.room, k.long);
  fits = f;
  meant = u;
}

-- Its names are counted, and then the task is done in it.
module _ {s argument m : List ℕ} {at left end opens : ℕ} {T : Task} {a : Option ℕ} (c : Counts s (at + 1) (left - 1) m end opens a) where
  counts : (P : Process) (x : Message) (ρ : Bound) (g : Accumulated) → Ready s argument at left m end T (Process.repl P) x ρ g
      → opens + news P ≤ 32760 → a ≡ count_of P ρ opens
  counts P x ρ g y l =
      c.exact P ρ (record { next = y.next; process = of_repl P y.process; bound = y.bound; room = omega (arith, y.room); fits = l })

  pub copy_over : {out : List ℕ} {now r : Progress} → a ≡ None → Stopped now r → Opens T opens s argument at left m end out now r out
  unfolding opened
  copy_over is o = record {
    exact = λ P x ρ g y l v.
        let large = counted_over P ρ opens (counts P x ρ g y l) is in
        rw (counted P x (at + 1) ρ (named opens g), large) o.over;
  }

  pub copy_done : {m₁ out after : List ℕ} {high next : ℕ} {U : Task} {now d r : Progress} → a ≡ Some next
      → Returns now.names s argument (at + 1) (left - 1) m₁ end U out d r after → U ≡ opening T next → Renamed now opens d
      → Within end high m m₁ → Opens T opens s argument at left m end out now r after
  unfolding opened
  copy_done {m₁} {out} {after} {high} {next} {U} {now} {d} {r} is j z n k = record {
    exact = λ P x ρ g y l v.
        let (fine, later) = counted_names P ρ opens (counts P x ρ g y l) is in
        let before : now.names ≡ g.names = v.names in
        let fits : next + later_news P ≤ 32760 = omega (arith, names-fit P ρ opens) in
        rw (counted P x (at + 1) ρ (named opens g), fine, ← later, ← before)
        ((rw z at j).exact P x ρ (named opens g)
        (copy_ready P (opening T next) (named opens g) y k (fits_opening T next opens g.names P fits l y.fits)
        (meant_opening s T next y.meant)) (renamed_shows opens v n));
  }

pub ruleset copies = (copy_over, copy_done)
