-- What the threads of a state are rebuilt to: lists stand in the places of those that act ("Steps"; "Judging and its count").
use mathlib.Core.Path.{◌≡◌, refl, sym, ◌∙◌, ap}
use mathlib.Core.Bool.{Bool, true, false, ◌||◌}
use mathlib.Core.List.{List, [], ◌∷◌, ◌++◌, flat_map, append-nil, append_assoc}
use Prim.Native.Nat.{ℕ, ◌+◌, ◌≤◌}
use native.Mathlib.Omega.{arith}
use lib.Dec.{ltb}
use lib.Ieee.Bits.{is_true}
use lib.ListN.{length, length-append}
use borrow.Author.Tests.{eqb-true, eqb-false, eq-eqb}
use Rattle.meaning.specs.Messages.Term.{Message}
use Rattle.meaning.specs.Logic.Truth.{any_of}
use Rattle.meaning.specs.Judging.Limits.{thread_nodes}
use Rattle.meaning.specs.Places.{Some, here, there, Every, none, ◌also◌}
use Rattle.meaning.proofs.Test.{some_passes, none_passes, some_map}
use Rattle.state_record.specs.Record.{Placed, encode_record, encode_records}
use Rattle.state_progress.specs.TraversalResult.{Accumulated, going, unless}
use Rattle.state_head.specs.Settled.{threads_of}
use Rattle.state_task.specs.declared.task.Task.{Task}
use Rattle.state_head.proofs.Laws.Crowd.{grown, crowded, roomy, within}
use Rattle.step_located.specs.Rebuilt.{push_all}
use Rattle.step_located.proofs.Laws.Writing.{Writes, writes_nothing, writes_thread, writes_further, push_all_writes, writes_own}
use Rattle.step_transition.specs.Focus.{Focus, focuses_from, focuses, record_at}
use Rattle.step_transition.specs.Outcome.{same, exchanged}
use Rattle.successor_rebuild.specs.Rebuild.{go_over, renewed, rebuilt}
use Rattle.successor_rebuild.proofs.Laws.Rebuild.{renewed_first, renewed_others}
use Rattle.step_transition.proofs.Laws.Records.{records_further, whole, same_record, other_record}

-- Threads that are written one after the other, with the limits on all of them.
pub push_all_limits : (ps : List Placed) (g : Accumulated) → length g.threads ≤ 32 → g.nodes ≤ 1024
    → let nodes = g.nodes + thread_nodes (threads_of ps) in
    push_all ps g ≡ unless (ltb 32 (length g.threads + length ps) || ltb 1024 nodes)
    (going (record { names = g.names; nodes = nodes; threads = g.threads ++ ps }))
unfolding crowded
push_all_limits ps g few small = (push_all_writes ps g (roomy g few small)).is ∙ rw (length-append g.threads ps)

-- A task leaves the list z of a thread, and meets a limit of its own where o says so.
pub record Leaves (t : Placed) (T : Task) (x : Message) (o : Bool) (z : List Placed) : Type 0 where
  pub exact : (g : Accumulated) → length g.threads ≤ 32 → g.nodes ≤ 1024 → go_over t T x g ≡ unless o (push_all z g)

pub leaves_writes : {t : Placed} {T : Task} {x : Message} {o : Bool} {z : List Placed} → Leaves t T x o z → (g : Accumulated) → crowded g ≡ false
    → Writes g (go_over t T x g) o z g.names
leaves_writes {t} {T} {x} {o} {z} l g w =
    let (few, small) = within g w in
    record { is = l.exact g few small ∙ by_own o }
  where
    by_own : (o : Bool) → unless o (push_all z g) ≡ unless (o || crowded (grown g g.names z)) (going (grown g g.names z))
    by_own true = refl
    by_own false = (push_all_writes z g w).is

-- What is left of each thread is left of all of them.
module _ (x : Message) (start i : ℕ) (T : Task) (j : ℕ) (U : Task) (ps : List Placed) (over : Focus → Bool) (part : Focus → List Placed)
    (each : (r : Focus) → whole r ≡ ps → (g : Accumulated) → crowded g ≡ false
    → Writes g (renewed x i T j U (record_at start r) r.thread g) (over r) (part r) g.names) where
  from : (ls ts : List Placed) → ls ++ ts ≡ ps → (g : Accumulated) → crowded g ≡ false
      → Writes g (rebuilt x i T j U (start + length (encode_records ls)) ts g) (any_of over (focuses_from ls ts))
      (flat_map part (focuses_from ls ts)) g.names
  unfolding rebuilt focuses_from any_of flat_map
  from ls [] e g w = writes_nothing w
  from ls (t ∷ ts) e g w =
      let here : start + length (encode_records (ls ++ (t ∷ []))) ≡ start + length (encode_records ls) + length (encode_record t) =
      omega (arith, records_further ls t) in
      writes_further (rebuilt x i T j U (start + length (encode_records ls) + length (encode_record t)) ts)
      (each (record { before = ls; thread = t; behind = ts }) e g w)
      (λ v. rw here at (from (ls ++ (t ∷ [])) ts (append_assoc ls (t ∷ []) ts ∙ e) _ v))

  pub rebuilt_parts : (g : Accumulated) → crowded g ≡ false
      → rebuilt x i T j U start ps g ≡ unless (any_of over (focuses ps)) (push_all (flat_map part (focuses ps)) g)
  unfolding encode_records
  rebuilt_parts g w =
      let here : start + 0 ≡ start = omega arith in
      writes_own w (rw here at (from [] ps refl g w))

-- Every focus of a list is among its focuses.
listed : (ls ms : List Placed) (t : Placed) (ts : List Placed)
    → Some (λ r. r ≡ record { before = ls ++ ms; thread = t; behind = ts }) (focuses_from ls (ms ++ (t ∷ ts)))
unfolding focuses_from
listed ls [] t ts =
    here {x = record { before = ls; thread = t; behind = ts }}
    (ap (λ ms. record { before = ms; thread = t; behind = ts }) (sym (append-nil ls)))
listed ls (m ∷ ms) t ts = there (rw (append_assoc ls (m ∷ []) ms) at (listed (ls ++ (m ∷ [])) ms t ts))

-- So a test that passes there passes somewhere, and one that passes nowhere does not.
pub passes_at : (f : Focus → Bool) (p : Focus) → f p ≡ true → any_of f (focuses (whole p)) ≡ true
passes_at f p h =
    is_true _ (some_passes f (some_map (λ r e. let there : f r ≡ true = ap f e ∙ h in rw there tt)
    (listed [] p.before p.thread p.behind)))

pub every : {A : Type 0} {Q : A → Type 0} → ((x : A) → Q x) → (xs : List A) → Every Q xs
every f [] = none
every f (x ∷ xs) = f x also every f xs

-- One thread acts.
abbrev over_one : Focus → Bool → Focus → Bool
over_one p o r = elim (same p r) [ true ↦ o | false ↦ false ]

abbrev part_one : Focus → List Placed → Focus → List Placed
part_one p z r = elim (same p r) [ true ↦ z | false ↦ r.thread ∷ [] ]

over-one : (p : Focus) (o : Bool) → any_of (over_one p o) (focuses (whole p)) ≡ o
over-one p true = passes_at (over_one p true) p (rw (eq-eqb (length p.before) (length p.before) refl, over_one))
over-one p false = none_passes (over_one p false) (every (λ r. by_test (same p r)) (focuses (whole p)))
  where
    by_test : (b : Bool) → (elim b [ true ↦ false | false ↦ false ]) ≡ false
    by_test true = refl
    by_test false = refl

module _ (x : Message) (start : ℕ) (T U : Task) (p : Focus) (o : Bool) (z : List Placed) (l : Leaves p.thread T x o z) where
  each_one : (r : Focus) → whole r ≡ whole p → (g : Accumulated) → crowded g ≡ false
      → Writes g (renewed x (record_at start p) T (record_at start p) U (record_at start r) r.thread g) (over_one p o r) (part_one p z r) g.names
  each_one r e g w = by_test (same p r) refl
    where
      by_test : (b : Bool) → same p r ≡ b
          → Writes g (renewed x (record_at start p) T (record_at start p) U (record_at start r) r.thread g)
          (elim b [ true ↦ o | false ↦ false ]) (elim b [ true ↦ z | false ↦ r.thread ∷ [] ]) g.names
      by_test true f =
          let (at, t) = same_record start r p e (eqb-true (length r.before) (length p.before) f) in
          rw (renewed_first x (record_at start p) T (record_at start p) U (record_at start r) r.thread g at, t) (leaves_writes l g w)
      by_test false f =
          let at = other_record start r p e (eqb-false (length r.before) (length p.before) f) in
          rw (renewed_others x (record_at start p) T (record_at start p) U (record_at start r) r.thread g at at)
          (writes_thread r.thread.place r.thread.thread g)

  pub rebuilt_one : (ps : List Placed) → ps ≡ whole p → (g : Accumulated) → length g.threads ≤ 32 → g.nodes ≤ 1024
      → rebuilt x (record_at start p) T (record_at start p) U start ps g ≡ unless o (push_all (exchanged p z (focuses ps)) g)
  unfolding exchanged
  rebuilt_one ps e g few small =
      rw e (
      rebuilt_parts x start (record_at start p) T (record_at start p) U (whole p) (over_one p o) (part_one p z) each_one g (roomy g few small)
      ∙ rw (over-one p o))
