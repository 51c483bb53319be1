-- How a traversal grows by threads that it writes, and when there are too many, or too many nodes in them ("Judging and its count").
use Prim.Native.Nat.{ℕ, ◌+◌, ◌≤◌}
use native.Mathlib.Omega.{arith}
use native.Mathlib.Nat.{add-zero, add_assoc}
use native.Mathlib.Numerals.{add-one}
use mathlib.Core.Path.{◌≡◌, refl, sym, ◌∙◌}
use mathlib.Core.Bool.{Bool, true, false, ◌||◌, true≢false}
use mathlib.Core.List.{List, [], ◌∷◌, ◌++◌, map-append, append-nil, append_assoc}
use lib.Dec.{ltb}
use lib.ListN.{length, length-append}
use borrow.Author.Tests.{ltb-false, le-ltb}
use Rattle.meaning.specs.Steps.State.{Thread, act, repl}
use Rattle.meaning.specs.Judging.Limits.{bound_nodes, thread_nodes}
use Rattle.meaning.proofs.Test.{neither}
use Rattle.state_record.specs.Record.{Placed, bound_of}
use Rattle.state_progress.specs.TraversalResult.{Accumulated, going, unless, push}
use Rattle.state_head.specs.Settled.{threads_of}

-- The threads ps are written, and n is the next private name.
abbrev pub grown : Accumulated → ℕ → List Placed → Accumulated
grown g n ps = record { names = n; nodes = g.nodes + thread_nodes (threads_of ps); threads = g.threads ++ ps }

unfoldable pub crowded : Accumulated → Bool
crowded g = ltb 32 (length g.threads) || ltb 1024 g.nodes

-- The test as numbers.
pub roomy : (g : Accumulated) → length g.threads ≤ 32 → g.nodes ≤ 1024 → crowded g ≡ false
unfolding crowded
roomy g t n = rw (le-ltb 32 (length g.threads) t, le-ltb 1024 g.nodes n)

pub within : (g : Accumulated) → crowded g ≡ false → (length g.threads ≤ 32) × (g.nodes ≤ 1024)
unfolding crowded
within g e =
    let (t, n) = neither (ltb 32 (length g.threads)) (ltb 1024 g.nodes) e in
    (ltb-false 32 (length g.threads) t, ltb-false 1024 g.nodes n)

-- What is crowded stays so.
pub crowded_later : (g : Accumulated) (n : ℕ) (ps : List Placed) → crowded g ≡ true → crowded (grown g n ps) ≡ true
crowded_later g n ps e = by_later (crowded (grown g n ps)) refl
  where
    by_later : (b : Bool) → crowded (grown g n ps) ≡ b → b ≡ true
    by_later true f = refl
    by_later false f =
        let (t, k) = within (grown g n ps) f in
        let l = length-append g.threads ps in
        absurd (true≢false (sym e ∙ roomy g (omega arith) (omega arith)))

-- Nothing is written; one list, and then another.
pub grown_nil : (g : Accumulated) → grown g g.names [] ≡ g
unfolding thread_nodes
grown_nil g = rw (append-nil, add-zero)

pub thread_nodes_append : (ts us : List Thread) → thread_nodes (ts ++ us) ≡ thread_nodes ts + thread_nodes us
unfolding thread_nodes
thread_nodes_append [] us = omega arith
thread_nodes_append (act ρ p P ∷ ts) us = omega (arith, thread_nodes_append ts us)
thread_nodes_append (repl ρ P ∷ ts) us = omega (arith, thread_nodes_append ts us)

pub grown_twice : (g : Accumulated) (n m : ℕ) (ps qs : List Placed) → grown (grown g n ps) m qs ≡ grown g m (ps ++ qs)
grown_twice g n m ps qs = rw (map-append, thread_nodes_append, append_assoc, add_assoc)

-- One thread is written.
abbrev pub alone : ℕ → Thread → List Placed
alone at t = record { place = at; thread = t } ∷ []

thread_alone : (t : Thread) → thread_nodes (t ∷ []) ≡ bound_nodes (bound_of t)
unfolding thread_nodes
thread_alone (act ρ p P) = add-zero _
thread_alone (repl ρ P) = add-zero _

pub pushed : (at : ℕ) (t : Thread) (g : Accumulated)
    → let h = grown g g.names (alone at t) in push at t g ≡ unless (crowded h) (going h)
unfolding push crowded
pushed at t g = rw (thread_alone t, length-append g.threads (alone at t), add-one)
