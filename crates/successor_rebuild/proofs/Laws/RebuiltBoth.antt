-- What the threads of a state are rebuilt to where two of them act: a list stands in the place of each ("Steps").
use mathlib.Core.Path.{◌≡◌, refl, ◌∙◌}
use mathlib.Core.Bool.{Bool, true, false, ◌||◌}
use mathlib.Core.List.{List, [], ◌∷◌}
use Prim.Native.Nat.{ℕ, ◌≤◌}
use lib.ListN.{length}
use borrow.Author.Tests.{eqb-true, eqb-false, eq-eqb}
use Rattle.meaning.specs.Messages.Term.{Message}
use Rattle.meaning.specs.Logic.Truth.{any_of}
use Rattle.meaning.proofs.Test.{none_passes}
use Rattle.state_record.specs.Record.{Placed}
use Rattle.state_progress.specs.TraversalResult.{Accumulated, unless}
use Rattle.state_task.specs.declared.task.Task.{Task}
use Rattle.state_head.proofs.Laws.Crowd.{crowded, roomy}
use Rattle.step_located.specs.Rebuilt.{push_all}
use Rattle.step_located.proofs.Laws.Writing.{Writes, writes_thread}
use Rattle.step_transition.specs.Focus.{Focus, focuses, record_at}
use Rattle.step_transition.specs.Outcome.{same, both_exchanged}
use Rattle.successor_rebuild.specs.Rebuild.{renewed, rebuilt}
use Rattle.successor_rebuild.proofs.Laws.Rebuild.{renewed_first, renewed_second, renewed_others}
use Rattle.step_transition.proofs.Laws.Records.{whole, same_record, other_record}
use Rattle.successor_rebuild.proofs.Laws.Rebuilt.{Leaves, leaves_writes, rebuilt_parts, passes_at, every}

-- What is chosen by the focus: a, b, or c.
abbrev chosen : {A : Type 0} → (first second : Bool) → (a b c : A) → A
chosen first second a b c = elim first [ true ↦ a | false ↦ elim second [ true ↦ b | false ↦ c ] ]

abbrev over_both : Focus → Bool → Focus → Bool → Focus → Bool
over_both p o q u r = chosen (same p r) (same q r) o u false

abbrev part_both : Focus → List Placed → Focus → List Placed → Focus → List Placed
part_both p z q y r = chosen (same p r) (same q r) z y (r.thread ∷ [])

at_itself : (p : Focus) → same p p ≡ true
at_itself p = eq-eqb (length p.before) (length p.before) refl

over-both : (ps : List Placed) (p : Focus) (o : Bool) (q : Focus) (u : Bool) → ps ≡ whole p → ps ≡ whole q → same p q ≡ false
    → any_of (over_both p o q u) (focuses ps) ≡ (o || u)
over-both ps p true q u e f apart = rw e (passes_at (over_both p true q u) p (rw (at_itself p, chosen)))
over-both ps p false q true e f apart = rw f (passes_at (over_both p false q true) q (rw (apart, at_itself q, chosen)))
over-both ps p false q false e f apart = none_passes (over_both p false q false) (every (λ r. by_tests (same p r) (same q r)) (focuses ps))
  where
    by_tests : (a b : Bool) → chosen a b false false false ≡ false
    by_tests true b = refl
    by_tests false true = refl
    by_tests false false = refl

module _ (x : Message) (start : ℕ) (T U : Task) (ps : List Placed) (p q : Focus) (e : ps ≡ whole p) (f : ps ≡ whole q) (o u : Bool)
    (z y : List Placed) (l : Leaves p.thread T x o z) (k : Leaves q.thread U x u y) where
  each_both : (r : Focus) → whole r ≡ ps → (g : Accumulated) → crowded g ≡ false
      → Writes g (renewed x (record_at start p) T (record_at start q) U (record_at start r) r.thread g) (over_both p o q u r) (part_both p z q y r)
      g.names
  each_both r h g w = by_tests (same p r) (same q r) refl refl
    where
      by_tests : (a b : Bool) → same p r ≡ a → same q r ≡ b
          → Writes g (renewed x (record_at start p) T (record_at start q) U (record_at start r) r.thread g) (chosen a b o u false)
          (chosen a b z y (r.thread ∷ [])) g.names
      by_tests true b c d =
          let (at, t) = same_record start r p (h ∙ e) (eqb-true (length r.before) (length p.before) c) in
          rw (renewed_first x (record_at start p) T (record_at start q) U (record_at start r) r.thread g at, t) (leaves_writes l g w)
      by_tests false true c d =
          let off = other_record start r p (h ∙ e) (eqb-false (length r.before) (length p.before) c) in
          let (at, t) = same_record start r q (h ∙ f) (eqb-true (length r.before) (length q.before) d) in
          rw (renewed_second x (record_at start p) T (record_at start q) U (record_at start r) r.thread g off at, t) (leaves_writes k g w)
      by_tests false false c d =
          let off = other_record start r p (h ∙ e) (eqb-false (length r.before) (length p.before) c) in
          let away = other_record start r q (h ∙ f) (eqb-false (length r.before) (length q.before) d) in
          rw (renewed_others x (record_at start p) T (record_at start q) U (record_at start r) r.thread g off away)
          (writes_thread r.thread.place r.thread.thread g)

  pub rebuilt_both : same p q ≡ false → (g : Accumulated) → length g.threads ≤ 32 → g.nodes ≤ 1024
      → rebuilt x (record_at start p) T (record_at start q) U start ps g ≡ unless (o || u) (push_all (both_exchanged p z q y (focuses ps)) g)
  unfolding both_exchanged
  rebuilt_both apart g few small =
      rebuilt_parts x start (record_at start p) T (record_at start q) U ps (over_both p o q u) (part_both p z q y) each_both g (roomy g few small)
      ∙ rw (over-both ps p o q u e f apart)
