-- What a step leads to has no more threads and nodes than the state that is left and what follows the threads that act ("Judging and its
-- count").
use mathlib.Core.Path.{◌≡◌, refl, sym, ◌∙◌}
use mathlib.Core.Bool.{Bool, true, false, ◌||◌}
use mathlib.Core.List.{List, [], ◌∷◌, ◌++◌, flat_map}
use Prim.Native.Nat.{ℕ, ◌+◌, ◌≤◌}
use native.Mathlib.Omega.{arith}
use borrow.Author.Tests.{eqb-true}
use lib.Dec.{ltb, eqb}
use lib.ListN.{length, length-append}
use Rattle.meaning.specs.Messages.Term.{Message}
use Rattle.meaning.specs.Bytes.Process.{Process}
use Rattle.meaning.specs.Steps.State.{Bound, names, settle}
use Rattle.meaning.specs.Steps.Invariant.{BoundStored}
use Rattle.meaning.specs.Logic.Truth.{any_of}
use Rattle.meaning.specs.Judging.Limits.{over_settling, over_offers, thread_nodes}
use Rattle.meaning.proofs.Test.{neither}
use Rattle.state_record.specs.Record.{Placed}
use Rattle.state_progress.specs.TraversalResult.{Accumulated, going, unless}
use Rattle.state_task.specs.declared.task.Task.TheVariants.{Settle}
use Rattle.state_head.specs.Settled.{settled_to, over_settled}
use Rattle.state_head.specs.Traversal.{go}
use Rattle.state_head.proofs.Laws.Settling.{settles}
use Rattle.step_transition.specs.Focus.{Focus, focuses, focuses_from}
use Rattle.step_transition.specs.Outcome.{exchanged, both_exchanged}
use Rattle.step_transition.proofs.Laws.MovesFocuses.{Stands, exchanged_is}

-- What lists weigh, if two of them weigh what both do.
module _ (μ : List Placed → ℕ) (nothing : μ [] ≡ 0) (joined : (xs ys : List Placed) → μ (xs ++ ys) ≡ μ xs + μ ys) where
  pub one_weighs : (ps : List Placed) (p : Focus) (z : List Placed) → Stands ps p → μ (exchanged p z (focuses ps)) ≤ μ ps + μ z
  one_weighs ps p z h =
      rw (exchanged_is ps p z h, h.parts)
      (omega (
        arith,
        joined p.before (z ++ p.behind),
        joined z p.behind,
        joined p.before (p.thread ∷ p.behind),
        joined (p.thread ∷ []) p.behind,
      ))

  -- Each of two lists takes the place of one thread at most.
  pub both_weigh : (p q : Focus) (z y : List Placed) (ls ts : List Placed) (a b : ℕ) → (length ls ≤ length p.before → μ z ≤ a)
      → (length ls ≤ length q.before → μ y ≤ b) → μ (both_exchanged p z q y (focuses_from ls ts)) ≤ μ ts + a + b
  unfolding focuses_from both_exchanged flat_map
  both_weigh p q z y ls [] a b f g = omega (arith, nothing)
  both_weigh p q z y ls (t ∷ ts) a b f g =
      by_tests (eqb (length ls) (length p.before)) (eqb (length ls) (length q.before)) refl refl
      (both_weigh p q z y (ls ++ (t ∷ [])) ts)
    where
      others : List Placed
      others = both_exchanged p z q y (focuses_from (ls ++ (t ∷ [])) ts)

      longer : length (ls ++ (t ∷ [])) ≡ length ls + 1
      longer = length-append ls (t ∷ [])

      by_tests : (c d : Bool) → eqb (length ls) (length p.before) ≡ c → eqb (length ls) (length q.before) ≡ d
          → ((a b : ℕ) → (length (ls ++ (t ∷ [])) ≤ length p.before → μ z ≤ a) → (length (ls ++ (t ∷ [])) ≤ length q.before → μ y ≤ b)
          → μ others ≤ μ ts + a + b)
          → μ (elim c [ true ↦ z | false ↦ elim d [ true ↦ y | false ↦ t ∷ [] ] ] ++ others) ≤ μ (t ∷ ts) + a + b
      by_tests true d e h rest =
          let here = eqb-true (length ls) (length p.before) e in
          let light = rest 0 b (λ l. absurd (omega (arith, longer, here))) (λ l. g (omega (arith, longer))) in
          omega (arith, light, joined z others, joined (t ∷ []) ts, f (omega (arith, here)))
      by_tests false true e h rest =
          let here = eqb-true (length ls) (length q.before) h in
          let light = rest a 0 (λ l. f (omega (arith, longer))) (λ l. absurd (omega (arith, longer, here))) in
          omega (arith, light, joined y others, joined (t ∷ []) ts, g (omega (arith, here)))
      by_tests false false e h rest =
          let light = rest a b (λ l. f (omega (arith, longer))) (λ l. g (omega (arith, longer))) in
          omega (arith, light, joined (t ∷ []) others, joined (t ∷ []) ts)

-- A process that was settled meets no limit of its own, and these are its threads.
pub settled : (P : Process) (y : Message) (at : ℕ) (σ : Bound) (g h : Accumulated) → BoundStored g.names σ → length g.threads ≤ 32
    → g.nodes ≤ 1024 → go P Settle y at σ g ≡ going h
    → ((over_settling P σ g.names || any_of (λ t. over_offers t (names P σ g.names)) (settle P σ g.names)) ≡ false)
    × (h ≡ settled_to P at σ g)
settled P y at σ g h b few light e = by_test (over_settled P σ g) refl (sym (settles P y at σ g b few light) ∙ e)
  where
    by_test : (c : Bool) → over_settled P σ g ≡ c → unless c (going (settled_to P at σ g)) ≡ going h
        → ((over_settling P σ g.names || any_of (λ t. over_offers t (names P σ g.names)) (settle P σ g.names)) ≡ false)
        × (h ≡ settled_to P at σ g)
    by_test true f d = absurd (let z : ◌≡◌ {A = ℕ} 0 1 = cc in omega arith)
    by_test false f d =
        let ts = settle P σ g.names in
        let (settling, others) = neither (over_settling P σ g.names) _ f in
        let (room, offers) = neither (ltb 32 (length g.threads + length ts) || ltb 1024 (g.nodes + thread_nodes ts)) _ others in
        let same : settled_to P at σ g ≡ h = cc in
        (rw (settling, offers), sym same)
