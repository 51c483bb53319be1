-- A repl thread: its copies that are opened, and the thread itself ("Steps"; "Judging and its count").
use mathlib.Core.Path.{◌≡◌, subst}
use mathlib.Core.Bool.{Bool, true, false}
use mathlib.Core.List.{List}
use Prim.Native.Nat.{ℕ, ◌+◌, ◌-◌, ◌≤◌}
use native.Mathlib.Omega.{arith}
use lib.Dec.{eqb}
use Rattle.meaning.specs.Messages.Term.{Message}
use Rattle.meaning.specs.Bytes.Process.{Process}
use Rattle.meaning.specs.Places.{Every, none, ◌also◌}
use Rattle.meaning.specs.Steps.State.{Bound, repl}
use Rattle.buffer.specs.Buffer.{Within}
use Rattle.buffer.proofs.Laws.Buffer.{unchanged}
use Rattle.state_head.specs.News.{news}
use Rattle.state_progress.specs.TraversalResult.{Accumulated, further, named, returned}
use Rattle.state_task.specs.Machine.{contains, sending, taking, at_repl}
use Rattle.state_head.specs.Traversal.{go}
use Rattle.state_task.specs.Copies.{within, seeking, target, seeking_in, passes, finding, taken, builder, rebuilt, building_in}
use Rattle.state_task.specs.Copies.{copies_at, opened_by, firstly, in_copies}
use Rattle.state_replication.specs.Decided.{Decided, Begins, Finishes}
use Rattle.state_progress.specs.Represented.{Represents, RepresentsResult}
use Rattle.state_head.specs.Traverse.{numbers_of, NamesFit, MarksMeant, Meant, Ready, TraversesIf, Returns}
use Rattle.state_head.specs.Traverse.{CanOpen, Openable, AllOpenable, copy_of, Opens, OpensBy, OpensBoth, Performs}
use Rattle.state_progress.specs.Progress.{Renamed}
use Rattle.state_task.specs.declared.task.Task.{Task}
use Rattle.state_task.specs.declared.task.Task.TheVariants.{Count, Judge, Settle, Seek, SeekIn, Find, Build, BuildIn}
use Rattle.state_task.specs.declared.task.Plan.{Plan}
use Rattle.state_task.specs.declared.opening.Opening.{Opening}
use Rattle.state_task.specs.declared.opening.Opening.TheVariants.{None, Copy, Again}
use Rattle.state_task.specs.declared.opening.Copies.{Copies}
use Rattle.state_progress.specs.declared.progress.Progress.{Progress}
use Rattle.state_record.proofs.Laws.Process.{in_model, shaped, of_repl}
use Rattle.state_progress.proofs.Laws.Progress.{renamed_shows}
use Rattle.state_progress.proofs.Laws.Written.{no_further, goes_further, stands_there}
use Rattle.state_task.proofs.Laws.Copies.{no_more, as_decided}
use Rattle.state_task.proofs.Laws.Bound.{bound_still}
use Rattle.state_head.proofs.Laws.Fits.{fits_later}
use Rattle.state_head.proofs.Laws.TraversalResult.{then_next, opening_next, first_next}
use Rattle.state_head.proofs.Laws.Copy.{copy_ready}

-- The copies that a task opens can be opened where the task can be done.
pub taking_meant : (s : List ℕ) (b : Plan) → MarksMeant s b → MarksMeant s (taking b)
taking_meant s b f = ((λ t e. absurd (omega arith)), f.1)

sending_meant : (s : List ℕ) (b : Plan) → MarksMeant s b → MarksMeant s (sending b)
sending_meant s b f = (f.0, λ t e. absurd (omega arith))

either : {A : Type 0} (Q : A → Type 0) (b : Bool) {c d : A} → Q c → Q d → Q (elim b [ true ↦ c | false ↦ d ])
either Q true p q = p
either Q false p q = q

module _ (s : List ℕ) (P : Process) where
  abbrev Small : List ℕ → Type 0
  Small ks = Every (λ k. k + news P ≤ 32760) ks

  can : (T : Task) (n : ℕ) → n + news P ≤ 32760 → Small (numbers_of T) → Meant s T → CanOpen s P T n
  can T n l e u = record { own = l; others = e; meant = u }

  openable : (T : Task) (at n : ℕ) → n + news P ≤ 32760 → Small (numbers_of T) → Meant s T → AllOpenable s P (copies_at T at n P)
  unfolding within seeking target seeking_in finding taken builder rebuilt building_in
  openable Count at n l e u = (tt, tt)
  openable (Judge k) at n l (h also e) u = (can (Judge k) k h (h also e) u, tt)
  openable Settle at n l e u = (can (Judge n) n l (l also none) tt, tt)
  openable (Seek q k) at n l (h also e) u =
      (either (Openable s P) (contains q.excluded (at + 1) P) tt (can (Seek q k) k h (h also e) u), tt)
  openable (SeekIn q c k) at n l (h also (i also e)) u =
      let first = can (Seek q k) k h (h also none) tt in
      let same = can (Seek q c.second) k h (i also none) tt in
      let second = can (Seek q k) c.second i (h also none) tt in
      let way = can (SeekIn q c k) k h (h also (i also e)) u in (
        either (Openable s P) (eqb (at + 1) c.place)
            (either (Openable s P) (eqb c.arity 0) first (either (Openable s P) (eqb c.arity 1) same second))
            (either (Openable s P) (contains c.place (at + 1) P) way tt),
        tt,
      )
  openable (Find f past k) at n l (h also e) u =
      either (AllOpenable s P) (passes f past at P) (tt, tt)
      (either (Openable s P) (eqb (at + 1) f) tt (can (Find f past k) k h (h also e) u), tt)
  openable (Build b k) at n l (h also (i also e)) u =
      let whole = can (Build b k) k h (h also (i also e)) u in
      let other = can (Build (taking b) k) b.second i (h also (i also e)) (taking_meant s b u) in (
        either (Openable s P) (contains b.sender (at + 1) P) whole
            (either (Openable s P) (contains b.taker (at + 1) P) (either (Openable s P) (eqb b.sender 0) whole other) tt),
        tt,
      )
  openable (BuildIn b c k) at n l (h also (i also e)) u =
      let sent = can (Build (sending b) k) k h (h also e) (sending_meant s b u) in
      let took = can (Build (taking b) k) c.second i (h also e) (taking_meant s b u) in
      let whole = can (Build b k) k h (h also e) u in
      let way = can (BuildIn b c k) k h (h also (i also e)) u in
      either (AllOpenable s P) (eqb (at + 1) c.place) (either (AllOpenable s P) (eqb c.arity 2) (sent, took) (whole, tt))
      (either (Openable s P) (contains c.place (at + 1) P) way tt, tt)

-- The same place for another task, after a call and with threads that were written since.
pub ready_for : {s argument m m₁ : List ℕ} {at left end high : ℕ} {T : Task} {x : Message} {ρ : Bound} {g : Accumulated} (P : Process) (U : Task) (h : Accumulated)
    → Ready s argument at left m end T P x ρ g → Within end high m m₁ → NamesFit U h.names P → Meant s U
    → Ready s argument at left m₁ end U P x ρ h
ready_for P U h y k f u = record {
  next = y.next;
  process = y.process;
  shallow = y.shallow;
  short = y.short;
  labelled = y.labelled;
  small = y.small;
  normal = y.normal;
  bound = bound_still y.bound k;
  room = omega (arith, y.room, k.long);
  fits = f;
  meant = u;
}

-- A copy, if there is one and the traversal still goes on.
module _ {o : Opening} {s argument m out : List ℕ} {at left end : ℕ} {now : Progress} where
  pub open_off : now.going ≡ false → OpensBy o s argument at left m end out now now out
  open_off off = record { exact = λ P x ρ g y u d same v. no_further s out now d _ v off }

  pub open_none : o ≡ None → OpensBy o s argument at left m end out now now out
  open_none e = record { exact = λ P x ρ g y u d same v. rw (e, no_more d) v }

  module _ {after : List ℕ} {T : Task} {n : ℕ} {r : Progress} (on : now.going ≡ true) where
    pub open_copy : o ≡ Copy T n → Opens T n s argument at left m end out now r after → OpensBy o s argument at left m end out now r after
    open_copy e w = record {
      exact = λ P x ρ g y u d same v.
          let ok : CanOpen s P T n = rw e at u in
          rw e (goes_further s after r d _ v on (λ h i z.
          let names : h.names ≡ g.names = same h i in
          w.exact P x ρ h (ready_for (Process.repl P) T h y (unchanged {low = end} {high = end})
          (record { own = rw names y.fits.own; others = ok.others }) ok.meant) ok.own z));
    }

    pub open_again : {d : Progress} → o ≡ Again T n → Returns now.names s argument (at + 1) (left - 1) m end T out d r after
        → Renamed now n d → OpensBy o s argument at left m end out now r after
    open_again e w k = record {
      exact = λ P x ρ g y u d same v.
          let ok : CanOpen s P T n = rw e at u in
          rw e (goes_further s after r d _ v on (λ h i z.
          let before : now.names ≡ h.names = z.names in
          subst (λ (b : ℕ). RepresentsResult s after r (returned b (go P T x (at + 1) ρ (named n h)))) before
          (w.exact P x ρ (named n h) (copy_ready P T (named n h) y (unchanged {low = end} {high = end})
          (record { own = ok.own; others = fits_later P ok.others }) ok.meant) (renamed_shows n z k))));
    }

pub ruleset opens = (open_off, open_none, open_copy, open_again)

-- The first copy, and then the second.
pub pairs : {c : Copies} {s argument m m₁ out out₁ after : List ℕ} {at left end high : ℕ} {now mid r : Progress}
    → OpensBy c.first s argument at left m end out now mid out₁ → OpensBy c.second s argument at left m₁ end out₁ mid r after
    → Within end high m m₁ → OpensBoth c s argument at left m end out now r after
pairs {c} {at = at} v w k = record {
  exact = λ P x ρ g {T} y u d same z.
      let copy = copy_of at P x ρ in
      w.exact P x ρ g (ready_for (Process.repl P) T g y k y.fits y.meant) u.1 (further d (opened_by c.first copy))
      (then_next (λ n. n) (record { at_end = same }) (opening_next copy c.first)).at_end
      (v.exact P x ρ g y u.0 d same z);
}

-- And then the thread itself.
pub performances : {c : Copies} {s argument m m₁ out out₁ after : List ℕ} {at left end high : ℕ} {now mid r : Progress}
    → OpensBoth c s argument at left m end out now mid out₁ → Finishes c.own m₁ end at out₁ mid r after → Within end high m m₁
    → Performs c s argument at left m end out now r after
performances {c} {s} {at = at} w f k = record {
  exact = λ P x ρ g y u d same v.
      f.exact s ρ P (in_copies c (copy_of at P x ρ) d) (bound_still y.bound k)
      (stands_there (repl ρ P) y.short y.shallow y.process y.bound.normal) (w.exact P x ρ g y u d same v);
}

-- All of it, as it was decided.
pub repls : {c : Copies} {s argument m out out₁ after : List ℕ} {at left end : ℕ} {T : Task} {now begun r : Progress}
    → Decided Copies s at (copies_at T at now.names) c → Begins c.own m end at out now begun out₁
    → Performs c s argument at left m end out₁ begun r after → TraversesIf 7 s argument at left m end T out now r after
unfolding go
repls {c} {s} {argument} {m} {out} {after = after} {at} {left} {end} {T} {now} {r = r} d b w = record {
  exact = λ e. record { exact = λ P x ρ g y v. let (Q, f) = shaped 7 P y.process e in rw f (only Q x ρ g (rw f at y) v) };
}
  where
    only : (P : Process) (x : Message) (ρ : Bound) (g : Accumulated) → Ready s argument at left m end T (Process.repl P) x ρ g → Represents s out now g
        → RepresentsResult s after r (at_repl T at ρ P (copy_of at P x ρ) g)
    only P x ρ g y v =
        let names : now.names ≡ g.names = v.names in
        let is : c ≡ copies_at T at g.names P = rw names at (d.exact P (in_model (of_repl P y.process))) in
        rw (as_decided at ρ P (copy_of at P x ρ) g T, ← is)
        (w.exact P x ρ g y (rw is (openable s P T at g.names y.fits.own y.fits.others y.meant))
        (firstly c.own at ρ P g) (first_next at ρ P c.own g).at_end
        (b.exact s ρ P g y.bound (stands_there (repl ρ P) y.short y.shallow y.process y.bound.normal) v))
