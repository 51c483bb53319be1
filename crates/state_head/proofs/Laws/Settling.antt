-- What a traversal that settles comes to ("Steps", "Judging and its count").
use Prim.Native.Nat.{ℕ, suc, ◌+◌, ◌≤◌}
use native.Mathlib.Omega.{arith}
use native.Mathlib.Nat.{le_refl}
use mathlib.Core.Path.{◌≡◌, refl, sym, ap₂, ◌∙◌}
use mathlib.Core.Bool.{Bool, true, false, ◌||◌, or-true}
use mathlib.Core.List.{List, [], ◌∷◌, ◌++◌, map-append}
use lib.ListN.{length, length-append, length-map}
use Rattle.meaning.specs.Messages.Term.{Name, leaf, private, Message}
use Rattle.meaning.specs.Messages.Equation.{Normal}
use Rattle.meaning.specs.Messages.Normal.{equal}
use Rattle.meaning.specs.Bytes.Process.{Process}
use Rattle.meaning.specs.Places.{Every, none, ◌also◌}
use Rattle.meaning.specs.Steps.State.{Bound, ◌▸◌, written, worked, Thread, act, repl, names, settle}
use Rattle.meaning.specs.Steps.Invariant.{BoundStored, ThreadStored}
use Rattle.meaning.specs.Logic.Truth.{any_of}
use Rattle.meaning.specs.Judging.Limits.{over, over_settling, over_offers}
use Rattle.meaning.proofs.Test.{chosen, any_append}
use Rattle.meaning.proofs.Every.{every_joined}
use Rattle.meaning.proofs.Steps.Invariant.Settling.{bound_later, worked_below, settled_below}
use Rattle.meaning.proofs.Judging.Alike.{copies_alike}
use Rattle.state_record.specs.Place.{then_at, else_at, body_at, right_at}
use Rattle.state_record.specs.Record.{Placed}
use Rattle.state_progress.specs.TraversalResult.{Accumulated, TraversalResult, going, further, unless, named, push}
use Rattle.state_task.specs.Machine.{offered, opened, at_repl}
use Rattle.state_head.specs.Traversal.{at_prefix, go}
use Rattle.state_head.specs.Settled.{settled_at, threads_of, settled_to, over_settled}
use Rattle.state_task.specs.declared.task.Task.TheVariants.{Judge, Settle}
use Rattle.state_head.proofs.Laws.TraversalResult.{Ends, ends, stopped, ends_unless, ends_further}
use Rattle.state_head.proofs.Laws.Counting.{Comes, comes_unless, comes_further, chosen_all, any_map, judged}
use Rattle.state_head.proofs.Laws.Crowd.{grown, crowded, roomy, within, crowded_later, grown_nil, grown_twice, alone, pushed}

-- Without their positions they are the threads of settling.
pub settled_threads : (P : Process) (at : ℕ) (ρ : Bound) (n : ℕ) → threads_of (settled_at P at ρ n) ≡ settle P ρ n
unfolding settled_at settle
settled_threads Process.nil at ρ n = refl
settled_threads (Process.new P) at ρ n = settled_threads P _ _ _
settled_threads (Process.act p P) at ρ n = refl
settled_threads (Process.if M N P Q) at ρ n =
    chosen (λ ps ts. threads_of ps ≡ ts) (equal (written ρ M) (written ρ N)) (settled_threads P _ ρ n) (settled_threads Q _ ρ n)
settled_threads (Process.let_in M P) at ρ n = settled_threads P _ _ n
settled_threads (Process.par P Q) at ρ n =
    map-append _ (settled_at P (at + 1) ρ n) _ ∙ ap₂ ◌++◌ (settled_threads P (at + 1) ρ n) (settled_threads Q _ ρ _)
settled_threads (Process.repl P) at ρ n = refl

-- Whether what some thread offers meets a limit, the copies being opened at n.
abbrev over_any : ℕ → List Placed → Bool
over_any n ps = any_of (λ t. over_offers t.thread n) ps

-- Opened later, they meet the same limits.
any_alike : {n m : ℕ} → n ≤ m → (ps : List Placed) → Every (ThreadStored n) (threads_of ps) → over_any n ps ≡ over_any m ps
unfolding any_of
any_alike le [] none = refl
any_alike {n} {m} le (t ∷ ps) (b also bs) = ap₂ ◌||◌ (sym (copies_alike t.thread n m b le)) (any_alike le ps bs)

-- A traversal that goes on has passed both tests.
comes_ends : (a b : Bool) {c : TraversalResult} {h : Accumulated} → Comes c false (a || b) h → Ends (λ k. (k ≡ h) × (a ≡ false)) c
comes_ends true b e = rw e.is stopped
comes_ends false true e = rw e.is stopped
comes_ends false false e = rw e.is (ends (refl, refl))

-- The tests of two parts, where the first of the first part is passed.
or_swap : (a b c : Bool) → (a || (b || c)) ≡ (b || (a || c))
or_swap true true c = refl
or_swap true false c = refl
or_swap false b c = refl

-- A name is made, and bound.
made_below : {n : ℕ} {ρ : Bound} → BoundStored n ρ → BoundStored (suc n) (ρ ▸ leaf (private n))
made_below {n} b = every_joined (bound_later (omega arith) b) ((name_normal, le_refl (suc n)) also none)
  where
    name_normal : {a : Name} → Normal (leaf a)
    name_normal k e = elim e [ ]

-- What a traversal c from g comes to that writes the threads ps, o being what is met while settling, and n the last private name.
record Settles (ρ : Bound) (g : Accumulated) (c : TraversalResult) (o : Bool) (ps : List Placed) (n : ℕ) : Type 0 where
  to : Ends (λ h. (h ≡ grown g n ps) × (crowded g ≡ false → crowded h ≡ false)) c
  exact : BoundStored g.names ρ → crowded g ≡ false → Comes c o (crowded (grown g n ps) || over_any n ps) (grown g n ps)

module _ {ρ : Bound} {g : Accumulated} where
  settles_unless : (b : Bool) {c : TraversalResult} {o : Bool} {ps : List Placed} {n : ℕ} → Settles ρ g c o ps n
      → Settles ρ g (unless b c) (b || o) ps n
  settles_unless b s = record { to = ends_unless b s.to; exact = λ k w. comes_unless b (s.exact k w) }

  -- More is bound, or a name is made.
  settles_bound : {σ : Bound} (m : ℕ) → (BoundStored g.names ρ → BoundStored m σ) → {c : TraversalResult} {o : Bool} {ps : List Placed} {n : ℕ}
      → Settles σ (named m g) c o ps n → Settles ρ g c o ps n
  unfolding crowded
  settles_bound m f s = record { to = s.to; exact = λ b w. s.exact (f b) w }

  settles_nil : Settles ρ g (going g) false [] g.names
  unfolding any_of
  settles_nil = record {
    to = ends (sym (grown_nil g), λ w. w);
    exact = λ b w. record { is = rw (grown_nil g, w) };
  }

  -- A thread is written, and then judged.
  settles_thread : (at : ℕ) (t : Thread) (f : Accumulated → TraversalResult) → ((h : Accumulated) → Comes (f h) false (over_offers t h.names || false) h)
      → Settles ρ g (further (push at t g) f) false (alone at t) g.names
  unfolding any_of
  settles_thread at t f e =
      let h : Accumulated = grown g g.names (alone at t) in
      let stored : Comes (push at t g) false (crowded h) h = record { is = pushed at t g } in
      let comes = comes_further f stored (e h) in
      let passed = comes_ends (crowded h) (over_offers t g.names || false) comes in
      record {
        to = record { at_end = λ k r. let (same, free) = passed.at_end k r in (same, λ w. rw same free) };
        exact = λ b w. comes;
      }

  -- Two processes are settled, one after the other.
  settles_both : {c : TraversalResult} {o : Bool} {ps : List Placed} {n : ℕ} (f : Accumulated → TraversalResult) {u : Bool} {qs : List Placed} {m : ℕ}
      → (BoundStored g.names ρ → BoundStored n ρ × (over_any n ps ≡ over_any m ps))
      → Settles ρ g c o ps n → Settles ρ (grown g n ps) (f (grown g n ps)) u qs m → Settles ρ g (further c f) (o || u) (ps ++ qs) m
  settles_both {c} {o} {ps} {n} f {u} {qs} {m} later p q = record {
    to = ends_further c (λ h r.
        let (same, free) = p.to.at_end h r in
        rw same (record {
          at_end = λ k s.
              let (same', free') = q.to.at_end k s in
              (same' ∙ grown_twice g n m ps qs, λ w. free' (rw same at (free w)));
        }));
    exact = λ b w. by_crowd (later b) (p.exact b w) (crowded (grown g n ps)) refl;
  }
    where
      by_crowd : BoundStored n ρ × (over_any n ps ≡ over_any m ps) → Comes c o (crowded (grown g n ps) || over_any n ps) (grown g n ps)
          → (x : Bool) → crowded (grown g n ps) ≡ x
          → Comes (further c f) (o || u) (crowded (grown g m (ps ++ qs)) || over_any m (ps ++ qs)) (grown g m (ps ++ qs))
      by_crowd (b, alike) first true e =
          let full = rw (grown_twice g n m ps qs) at (crowded_later (grown g n ps) m qs e) in
          record { is = rw (first.is, e, full, or-true o, or-true (o || u)) }
      by_crowd (b, alike) first false e =
          let swap = or_swap (over_any m ps) (crowded (grown (grown g n ps) m qs)) (over_any m qs) in
          let append = any_append (λ t. over_offers t.thread m) ps qs in
          rw (e, alike, swap, grown_twice g n m ps qs, ← append) at (comes_further f first (q.exact b e))

-- What is bound before a process is settled is so after it, and what its threads offer meets the same limits after another one.
later_alike : (P Q : Process) (at : ℕ) {ρ : Bound} {n : ℕ} → BoundStored n ρ
    → BoundStored (names P ρ n) ρ × (let ps = settled_at P at ρ n in over_any (names P ρ n) ps ≡ over_any (names Q ρ (names P ρ n)) ps)
later_alike P Q at {ρ} {n} b =
    let (le, threads) = settled_below P b in
    let after = bound_later le b in
    (after, any_alike (settled_below Q after).0 (settled_at P at ρ n) (rw (settled_threads P at ρ n) threads))

go_settles : (P : Process) (x : Message) (at : ℕ) (ρ : Bound) (g : Accumulated)
    → Settles ρ g (go P Settle x at ρ g) (over_settling P ρ g.names) (settled_at P at ρ g.names) (names P ρ g.names)
unfolding go names settled_at settle over_settling at_prefix at_repl any_of
go_settles Process.nil x at ρ g = settles_nil
go_settles (Process.new P) x at ρ g = settles_bound (suc g.names) made_below (go_settles P x _ _ _)
go_settles (Process.act p P) x at ρ g =
    settles_thread at (act ρ p P) (offered ρ p P) (λ h. record { is = judged (Process.act p P) h.names x at ρ h })
go_settles (Process.if M N P Q) x at ρ g =
    settles_unless (over ρ M || over ρ N) (chosen_all (Settles ρ g) (equal (written ρ M) (written ρ N))
    (go_settles P x (then_at at M N) ρ g) (go_settles Q x (else_at at M N P) ρ g))
go_settles (Process.let_in M P) x at ρ g =
    settles_unless (over ρ M) (settles_bound g.names (λ b. worked_below b M b) (go_settles P x (body_at at M) (ρ ▸ worked ρ M) g))
go_settles (Process.par P Q) x at ρ g =
    settles_both (go Q Settle x (right_at at P) ρ) (later_alike P Q (at + 1)) (go_settles P x (at + 1) ρ g)
    (go_settles Q x (right_at at P) ρ _)
go_settles (Process.repl P) x at ρ g =
    settles_thread at (repl ρ P) (λ h. opened (λ U. go P U x (at + 1) ρ) (Judge h.names) h.names h)
    (λ h. record { is = judged (Process.repl P) h.names x at ρ h })

-- A traversal that goes on has come to the settled threads, and it is within the limits if it was.
pub settled-to : (P : Process) (x : Message) (at : ℕ) (ρ : Bound) (g h : Accumulated) → go P Settle x at ρ g ≡ going h
    → h ≡ settled_to P at ρ g
settled-to P x at ρ g h e = rw (settled_threads P at ρ g.names) at ((go_settles P x at ρ g).to.at_end h e).0

pub settled_within : (P : Process) (x : Message) (at : ℕ) (ρ : Bound) (g h : Accumulated) → go P Settle x at ρ g ≡ going h
    → length g.threads ≤ 32 → g.nodes ≤ 1024 → (length h.threads ≤ 32) × (h.nodes ≤ 1024)
settled_within P x at ρ g h e t n = within h (((go_settles P x at ρ g).to.at_end h e).1 (roomy g t n))

-- It meets a limit exactly where one of the tests says so.
pub settles : (P : Process) (x : Message) (at : ℕ) (ρ : Bound) (g : Accumulated) → BoundStored g.names ρ
    → length g.threads ≤ 32 → g.nodes ≤ 1024
    → go P Settle x at ρ g ≡ unless (over_settled P ρ g) (going (settled_to P at ρ g))
unfolding crowded
settles P x at ρ g b t n =
    let ps = settled_at P at ρ g.names in
    let size = length-append g.threads ps in
    let mapped = length-map ps (λ t. t.thread) in
    let any = any_map (λ t. over_offers t (names P ρ g.names)) (λ t. t.thread) ps in
    rw (size, ← mapped, ← any, settled_threads P at ρ g.names) at ((go_settles P x at ρ g).exact b (roomy g t n)).is
