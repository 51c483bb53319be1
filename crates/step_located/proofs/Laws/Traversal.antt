-- Traversals over a process that write a known list of threads ("Steps", "Judging and its count").
use Prim.Native.Nat.{ℕ, ◌+◌, ◌≤◌}
use mathlib.Core.Path.{◌≡◌, refl, sym, ◌∙◌, ap, ap₂}
use mathlib.Core.Bool.{Bool, false, ◌||◌, or-false}
use mathlib.Core.List.{List, ◌++◌}
use Rattle.meaning.specs.Messages.Term.{Message}
use Rattle.meaning.specs.Bytes.Process.{Prefix, Process}
use Rattle.meaning.specs.Steps.State.{Bound, Thread, act, repl, names, settle}
use Rattle.meaning.specs.Places.{Every, none, ◌also◌}
use Rattle.meaning.specs.Steps.Invariant.{BoundStored, ThreadStored}
use Rattle.meaning.specs.Logic.Truth.{any_of}
use Rattle.meaning.specs.Judging.Limits.{over_settling, over_offers}
use Rattle.meaning.proofs.Test.{neither, any_append}
use Rattle.meaning.proofs.Steps.Invariant.Settling.{settled_below}
use Rattle.meaning.proofs.Judging.Alike.{copies_alike}
use Rattle.state_record.specs.Place.{right_at}
use Rattle.state_record.specs.Record.{Placed}
use Rattle.state_progress.specs.TraversalResult.{Accumulated, TraversalResult, further, named, push}
use Rattle.state_task.specs.Machine.{opening, opened, at_repl}
use Rattle.state_head.specs.Traversal.{at_prefix, go}
use Rattle.state_head.specs.Settled.{settled_at}
use Rattle.step_located.specs.Rebuilt.{alone}
use Rattle.state_task.specs.declared.task.Task.{Task}
use Rattle.state_head.proofs.Laws.Counting.{over_repl}
use Rattle.state_head.proofs.Laws.Crowd.{grown, crowded}
use Rattle.step_located.proofs.Laws.Located.{left_part, right_part}
use Rattle.step_located.proofs.Laws.Leads.{said, Leads, Cases, by_cases}
use Rattle.step_located.proofs.Laws.Writing.{Writes, writes_nothing, writes_thread, writes_further, writes_opened}
use Rattle.step_located.proofs.Laws.Marks.{Plain}

-- Nothing is over a limit: not while the process is settled at n, nor what its threads offer, their copies being opened at k.
pub record Free (P : Process) (ρ : Bound) (n k : ℕ) : Type 0 where
  pub settling : over_settling P ρ n ≡ false
  pub offering : any_of (λ t. over_offers t k) (settle P ρ n) ≡ false

pub free_lead : {P P' : Process} {at at' : ℕ} {ρ ρ' : Bound} {n n' : ℕ} → Leads P at ρ n P' at' ρ' n' → (k : ℕ) → Free P ρ n k
    → Free P' ρ' n' k
unfolding said
free_lead l k f = record {
  settling = l.free f.settling;
  offering = ap (λ s. any_of (λ t. over_offers t k) s.threads) (sym l.same) ∙ f.offering;
}

pub free_par : (P Q : Process) {ρ : Bound} {n k : ℕ} → Free (Process.par P Q) ρ n k → Free P ρ n k × Free Q ρ (names P ρ n) k
unfolding over_settling settle
free_par P Q {ρ} {n} {k} f =
    let (s, s') = neither (over_settling P ρ n) _ f.settling in
    let (o, o') = neither (any_of (λ t. over_offers t k) (settle P ρ n)) _ (sym (any_append _ (settle P ρ n) _) ∙ f.offering) in
    (record { settling = s; offering = o }, record { settling = s'; offering = o' })

pub free_copy : (P : Process) {ρ : Bound} {n k : ℕ} → Free (Process.repl P) ρ n k → Free P ρ k (names P ρ k)
unfolding settle any_of
free_copy P {ρ} {n} {k} f =
    let (o, rest) = neither (over_offers (repl ρ P) k) _ f.offering in
    let (s, o') = neither (over_settling P ρ k) _ (sym (over_repl ρ P k) ∙ o) in
    record { settling = s; offering = o' }

-- Copies that open at another name meet the same limits.
pub any_later : {m : ℕ} (k j : ℕ) → m ≤ k → m ≤ j → {ts : List Thread} → Every (ThreadStored m) ts
    → any_of (λ t. over_offers t k) ts ≡ any_of (λ t. over_offers t j) ts
unfolding any_of
any_later k j l l' none = refl
any_later {m} k j l l' (◌also◌ {x = t} b bs) =
    ap₂ ◌||◌ (copies_alike t m k b l ∙ sym (copies_alike t m j b l')) (any_later k j l l' bs)

pub free_later : (P : Process) {ρ : Bound} {n : ℕ} (k j : ℕ) → BoundStored n ρ → names P ρ n ≤ k → names P ρ n ≤ j → Free P ρ n k
    → Free P ρ n j
free_later P k j b l l' f =
    record { settling = f.settling; offering = sym (any_later k j l l' (settled_below P b).1) ∙ f.offering }

pub free_opened : (P : Process) {ρ : Bound} {m : ℕ} (k j : ℕ) → BoundStored m ρ → m ≤ k → m ≤ j → Free P ρ k (names P ρ k)
    → Free P ρ j (names P ρ j)
free_opened P {ρ} {m} k j b l l' f =
    let alike = copies_alike (repl ρ P) m j b l' ∙ sym (copies_alike (repl ρ P) m k b l) in
    let opened = sym (over_repl ρ P j) ∙ alike ∙ over_repl ρ P k ∙ ap₂ ◌||◌ f.settling f.offering in
    let (s, o) = neither (over_settling P ρ j) _ opened in
    record { settling = s; offering = o }

-- A traversal of a process, from whatever is within the limits, writes the threads ps; o says whether it meets a limit besides those on all
-- threads and nodes.
pub record Does (T : Task) (x : Message) (P : Process) (at : ℕ) (ρ : Bound) (n : ℕ) (o : Bool) (ps : List Placed) : Type 0 where
  pub writes : (g : Accumulated) → crowded g ≡ false → Writes (named n g) (go P T x at ρ (named n g)) o ps (names P ρ n)

module _ {T : Task} {x : Message} where
  pub does_lead : {P P' : Process} {at at' : ℕ} {ρ ρ' : Bound} {n n' : ℕ} {o : Bool} {ps : List Placed} → Leads P at ρ n P' at' ρ' n'
      → over_settling P ρ n ≡ false → Does T x P' at' ρ' n' o ps → Does T x P at ρ n o ps
  unfolding said
  does_lead l free d =
      record { writes = λ g w. rw (l.traverse free T x g, ap (λ s. s.next) l.same) (record { is = (d.writes g w).is }) }

  pub does_par : (P Q : Process) {at : ℕ} {ρ : Bound} {n : ℕ} {o u : Bool} {ps qs : List Placed} → Does T x P (at + 1) ρ n o ps
      → Does T x Q (right_at at P) ρ (names P ρ n) u qs → Does T x (Process.par P Q) at ρ n (o || u) (ps ++ qs)
  unfolding go names
  does_par P Q {at} {ρ} {n} {o} {u} {ps} {qs} p q =
      record { writes = λ g w. writes_further (go Q T x (right_at at P) ρ) (p.writes g w) (λ w'. q.writes (grown g (names P ρ n) ps) w') }

  -- A thread that acts; and a repl thread, before which something else is written.
  pub does_thread : (p : Prefix) (P : Process) (at : ℕ) (ρ : Bound) (n : ℕ)
      → ((rest : Bound → Accumulated → TraversalResult) (g : Accumulated) → at_prefix T x at ρ p P rest g ≡ push at (act ρ p P) g)
      → Does T x (Process.act p P) at ρ n false (alone at (act ρ p P))
  unfolding go names
  does_thread p P at ρ n same = record { writes = λ g w. rw (same _ (named n g)) (writes_thread at (act ρ p P) (named n g)) }

  pub does_repl : (P : Process) (at : ℕ) (ρ : Bound) (n : ℕ) (f : (Task → Accumulated → TraversalResult) → Accumulated → TraversalResult) {o : Bool} {ps : List Placed}
      → ((copy : Task → Accumulated → TraversalResult) (g : Accumulated) → at_repl T at ρ P copy g ≡ further (f copy g) (push at (repl ρ P)))
      → ((g : Accumulated) → crowded g ≡ false → Writes g (f (λ U. go P U x (at + 1) ρ) g) o ps g.names)
      → Does T x (Process.repl P) at ρ n o (ps ++ alone at (repl ρ P))
  unfolding go names crowded
  does_repl P at ρ n f {o} {ps} same d = record {
    writes = λ g w.
        rw (same _ (named n g))
        (rw or-false at (writes_further (push at (repl ρ P)) (d (named n g) w) (λ w'. writes_thread at (repl ρ P) (grown g n ps))));
  }

-- A copy is opened.
pub does_opened : (P : Process) (T : Task) (x : Message) (at : ℕ) (ρ : Bound) (m : ℕ) {o : Bool} {ps : List Placed}
    → over_settling P ρ m ≡ false → Does (opening T (names P ρ m)) x P at ρ m o ps
    → (g : Accumulated) → crowded g ≡ false → Writes g (opened (λ U. go P U x at ρ) T m g) o ps g.names
does_opened P T x at ρ m free d g w = writes_opened P T x at ρ m g free (d.writes g w)

-- No mark of the task is in the process.
plain_cases : {T : Task} {x : Message} {R : (at : ℕ) → Process → Type 0} → Plain R T x
    → Cases (λ P at ρ n. R at P → over_settling P ρ n ≡ false → Does T x P at ρ n false (settled_at P at ρ n))
unfolding said go names settled_at over_settling crowded
plain_cases {T} {x} plain = record {
  lead = λ l h r free. does_lead l free (rw (ap (λ s. s.settled) l.same) (h (plain.narrow l.part r) (l.free free)));
  nothing = λ at ρ n r free. record { writes = λ g w. writes_nothing {g = named n g} w };
  action = λ p P at ρ n r free. does_thread p P at ρ n (λ rest g. plain.at_thread at ρ p P rest g r);
  beside = λ P Q at ρ n p q r free.
      let (f, f') = neither (over_settling P ρ n) _ free in
      does_par P Q (p (plain.narrow (left_part at P Q) r) f) (q (plain.narrow (right_part at P Q) r) f');
  copied = λ P at ρ n h r free.
      record { writes = λ g w. rw (plain.at_copy at ρ P _ (named n g) r) (writes_thread at (repl ρ P) (named n g)) };
}

pub does_plain : {T : Task} {x : Message} {R : (at : ℕ) → Process → Type 0} → Plain R T x → (P : Process) (at : ℕ) (ρ : Bound) (n : ℕ)
    → R at P → over_settling P ρ n ≡ false → Does T x P at ρ n false (settled_at P at ρ n)
does_plain plain = by_cases (plain_cases plain)
