-- Traversals that write a known list of threads, unless they meet a limit ("Steps", "Judging and its count").
use Prim.Native.Nat.{ℕ}
use mathlib.Core.Path.{◌≡◌, refl, sym, ◌∙◌, ap, fun_ext}
use mathlib.Core.Bool.{Bool, true, false, ◌||◌, or-true}
use mathlib.Core.List.{List, [], ◌∷◌, ◌++◌}
use lib.ListN.{length-append, length-map}
use Rattle.meaning.specs.Messages.Term.{Message}
use Rattle.meaning.specs.Bytes.Process.{Process}
use Rattle.meaning.specs.Steps.State.{Bound, Thread, names, settle}
use Rattle.meaning.specs.Steps.Invariant.{BoundStored}
use Rattle.meaning.specs.Logic.Truth.{any_of}
use Rattle.meaning.specs.Judging.Limits.{over_settling, over_offers}
use Rattle.state_record.specs.Record.{Placed}
use Rattle.state_progress.specs.TraversalResult.{Accumulated, TraversalResult, going, over_limit, found, further, unless, named, returned, push}
use Rattle.state_task.specs.Machine.{opening, opened}
use Rattle.state_head.specs.Traversal.{go}
use Rattle.state_head.specs.Settled.{settled_at}
use Rattle.step_located.specs.Rebuilt.{alone, push_all}
use Rattle.state_task.specs.declared.task.Task.{Task}
use Rattle.state_task.specs.declared.task.Task.TheVariants.{Settle}
use Rattle.state_head.proofs.Laws.TraversalResult.{Ends, ends, ends_further, push_next, Next}
use Rattle.state_head.proofs.Laws.Counting.{counted}
use Rattle.state_head.proofs.Laws.Crowd.{grown, crowded, within, crowded_later, grown_nil, grown_twice, pushed}
use Rattle.state_head.proofs.Laws.Settling.{settled_threads, settles}

-- A traversal c from g writes the threads ps and ends at the private name m; it meets a limit where o says so, or where these are too many.
pub record Writes (g : Accumulated) (c : TraversalResult) (o : Bool) (ps : List Placed) (m : ℕ) : Type 0 where
  pub is : c ≡ unless (o || crowded (grown g m ps)) (going (grown g m ps))

pub writes_nothing : {g : Accumulated} → crowded g ≡ false → Writes g (going g) false [] g.names
writes_nothing {g} w = record { is = rw (grown_nil g, w) }

pub writes_thread : (at : ℕ) (t : Thread) (g : Accumulated) → Writes g (push at t g) false (alone at t) g.names
writes_thread at t g = record { is = pushed at t g }

-- Names are given back.
pub writes_returned : {g : Accumulated} {c : TraversalResult} {o : Bool} {ps : List Placed} {m : ℕ} (n : ℕ) → Writes g c o ps m
    → Writes g (returned n c) o ps n
unfolding crowded
writes_returned {g} {c} {o} {ps} {m} n w = record { is = rw w.is (by_test (o || crowded (grown g m ps))) }
  where
    by_test : (b : Bool) → returned n (unless b (going (grown g m ps))) ≡ unless b (going (grown g n ps))
    by_test true = refl
    by_test false = refl

-- One traversal after another.
pub writes_further : {g : Accumulated} {c : TraversalResult} {o : Bool} {ps : List Placed} {n : ℕ} (f : Accumulated → TraversalResult) {u : Bool} {qs : List Placed}
    {m : ℕ} → Writes g c o ps n → (crowded (grown g n ps) ≡ false → Writes (grown g n ps) (f (grown g n ps)) u qs m)
    → Writes g (further c f) (o || u) (ps ++ qs) m
writes_further {g} {c} {o} {ps} {n} f {u} {qs} {m} p q = record { is = rw p.is (by_tests o (crowded (grown g n ps)) refl) }
  where
    by_tests : (o b : Bool) → crowded (grown g n ps) ≡ b → let all = grown g m (ps ++ qs) in
        further (unless (o || b) (going (grown g n ps))) f ≡ unless (o || u || crowded all) (going all)
    by_tests true b e = refl
    by_tests false true e = rw (← grown_twice g n m ps qs, crowded_later (grown g n ps) m qs e, or-true)
    by_tests false false e = rw (← grown_twice g n m ps qs) (q e).is

-- A copy is opened, which meets no limit while it is settled.
pub writes_opened : (P : Process) (T : Task) (x : Message) (at : ℕ) (ρ : Bound) (n : ℕ) (g : Accumulated) {o : Bool} {ps : List Placed} {m : ℕ}
    → over_settling P ρ n ≡ false → Writes (named n g) (go P (opening T (names P ρ n)) x at ρ (named n g)) o ps m
    → Writes g (opened (λ U. go P U x at ρ) T n g) o ps g.names
unfolding opened
writes_opened P T x at ρ n g free w = rw (counted P x at ρ (named n g), free) (record { is = (writes_returned g.names w).is })

-- The test of some threads after those of all.
or_last : (a b c d : Bool) → (a || (b || c || d)) ≡ (a || d || (b || c))
or_last true b c d = refl
or_last false b c true = or-true (b || c)
or_last false true c false = refl
or_last false false true false = refl
or_last false false false false = refl

-- A process is settled and judged.
pub writes_settled : (P : Process) (x : Message) (at : ℕ) (ρ : Bound) (n : ℕ) (g : Accumulated) → BoundStored n ρ → crowded g ≡ false
    → Writes g (go P Settle x at ρ (named n g)) (over_settling P ρ n || any_of (λ t. over_offers t (names P ρ n)) (settle P ρ n))
    (settled_at P at ρ n) (names P ρ n)
unfolding crowded
writes_settled P x at ρ n g stored w =
    let (few, small) = within g w in
    let ps = settled_at P at ρ n in
    let size = length-append g.threads ps in
    let mapped = length-map ps (λ t. t.thread) in
    record {
      is = settles P x at ρ (named n g) stored few small ∙ rw (size, ← mapped, settled_threads P at ρ n, or_last (over_settling P ρ n));
    }

-- Three traversals, one after the other.
further_twice : (c : TraversalResult) (f h : Accumulated → TraversalResult) → further c (λ g. further (f g) h) ≡ further (further c f) h
further_twice (going g) f h = refl
further_twice over_limit f h = refl
further_twice (found x n ms) f h = refl

-- Threads that are written one after the other.
pub push_all_append : (ps qs : List Placed) (g : Accumulated) → push_all (ps ++ qs) g ≡ further (push_all ps g) (push_all qs)
unfolding push_all
push_all_append [] qs g = refl
push_all_append (t ∷ ps) qs g =
    ap (further (push t.place t.thread g)) (fun_ext (push_all_append ps qs)) ∙ further_twice (push t.place t.thread g) _ _

pub push_all_names : (ps : List Placed) (g h : Accumulated) → push_all ps g ≡ going h → h.names ≡ g.names
unfolding push_all
push_all_names ps g h e = (pushes ps g).at_end h e
  where
    pushes : (ps : List Placed) (g : Accumulated) → Ends (Next g.names) (push_all ps g)
    pushes [] g = ends refl
    pushes (t ∷ ps) g =
        ends_further (push t.place t.thread g) (λ k p. rw (← (push_next t.place t.thread g).at_end k p) (pushes ps k))

pub push_all_writes : (ps : List Placed) (g : Accumulated) → crowded g ≡ false → Writes g (push_all ps g) false ps g.names
unfolding push_all
push_all_writes [] g w = writes_nothing w
push_all_writes (t ∷ ps) g w = writes_further (push_all ps) (writes_thread t.place t.thread g) (λ w'. push_all_writes ps _ w')

-- So a traversal that writes threads does what these, one after the other, do.
module _ {g : Accumulated} {c : TraversalResult} {o : Bool} {ps : List Placed} (w : crowded g ≡ false) where
  pub writes_all : {m : ℕ} → Writes g c o ps m → c ≡ returned m (unless o (push_all ps g))
  writes_all {m} p = p.is ∙ by_own o
    where
      by_own : (o : Bool) → unless (o || crowded (grown g m ps)) (going (grown g m ps)) ≡ returned m (unless o (push_all ps g))
      by_own true = refl
      by_own false = sym (writes_returned m (push_all_writes ps g w)).is

  -- And no more, where it gives the names back.
  pub writes_own : Writes g c o ps g.names → c ≡ unless o (push_all ps g)
  writes_own p = p.is ∙ by_own o
    where
      by_own : (o : Bool) → let h = grown g g.names ps in unless (o || crowded h) (going h) ≡ unless o (push_all ps g)
      by_own true = refl
      by_own false = sym (push_all_writes ps g w).is

pub settle_pushes : (P : Process) (x : Message) (at : ℕ) (ρ : Bound) (n : ℕ) (g : Accumulated) → BoundStored n ρ → crowded g ≡ false
    → returned g.names (go P Settle x at ρ (named n g))
    ≡ unless (over_settling P ρ n || any_of (λ t. over_offers t (names P ρ n)) (settle P ρ n)) (push_all (settled_at P at ρ n) g)
settle_pushes P x at ρ n g stored w = writes_own w (writes_returned g.names (writes_settled P x at ρ n g stored w))
