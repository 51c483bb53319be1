-- What a step leaves of a process and its copies has no more threads, and no more nodes, than the index says ("Steps", "Judging and its
-- count").
use Prim.Native.Nat.{ℕ, ◌+◌, ◌*◌, ◌≤◌}
use native.Mathlib.Omega.{arith}
use native.Mathlib.Nat.{le_refl, add-zero}
use mathlib.Core.Path.{◌≡◌, refl, ◌∙◌, ap}
use mathlib.Core.List.{List, [], ◌∷◌, ◌++◌, map-append}
use lib.ListN.{length, length-append}
use Rattle.meaning.specs.Bytes.Process.{Process}
use Rattle.meaning.specs.Steps.State.{Bound, Thread, act, repl}
use Rattle.meaning.specs.Judging.Limits.{bound_nodes, thread_nodes}
use Rattle.state_record.specs.Record.{Placed, bound_of}
use Rattle.index_entry.specs.Entry.{growth}
use Rattle.state_head.specs.Settled.{threads_of}
use Rattle.state_head.proofs.Laws.Crowd.{thread_nodes_append}
use Rattle.step_located.specs.CopyStep.{CopyStep}
use Rattle.step_located.specs.Rebuilt.{alone, nodes_of, replaced_at, left_at}
use Rattle.step_located.proofs.Laws.Growth.{replaced_spread}
use Rattle.step_located.proofs.Laws.GrowthCopies.{Copied, inside_spread}

-- The most nodes that the messages of one thread have.
abbrev pub most : Process → Bound → ℕ
most P ρ = bound_nodes ρ + growth P

-- The number of threads: each is one.
one_thread : {c : ℕ} (t : Placed) → bound_nodes (bound_of t.thread) ≤ c → length (t ∷ []) ≤ 1
one_thread t l = le_refl 1

pub few_replaced : (x : ℕ) (z : List Placed) (P : Process) (at : ℕ) (ρ : Bound) (n k : ℕ) → growth P ≤ 32
    → length (replaced_at x z P at ρ n k) ≤ growth P + length z
few_replaced x z P at ρ n k few =
    let c = most P ρ in
    omega (arith, replaced_spread length refl length-append c 1 one_thread x z P at ρ n k few (le_refl c))

pub few_inside : (w : CopyStep) (zx zy : List Placed) (P : Process) (at : ℕ) (ρ : Bound) (n k : ℕ) → growth P ≤ 32
    → Copied P ρ w.bound w.copied
    → length (replaced_at w.place (left_at w zx zy ++ alone w.place (repl w.bound w.copied)) P at ρ n k)
    ≤ growth P + growth P + growth P + length zx + length zy
few_inside w zx zy P at ρ n k few copied =
    let c = most P ρ in
    omega (arith, inside_spread length refl length-append c 1 one_thread w zx zy P at ρ n k few (le_refl c) copied)

-- The number of nodes: each thread has those of its messages.
pub nodes_none : nodes_of [] ≡ 0
unfolding thread_nodes
nodes_none = refl

pub nodes_joined : (ps qs : List Placed) → nodes_of (ps ++ qs) ≡ nodes_of ps + nodes_of qs
nodes_joined ps qs = ap thread_nodes (map-append (λ t. t.thread) ps qs) ∙ thread_nodes_append (threads_of ps) (threads_of qs)

alone_nodes : (t : Thread) → thread_nodes (t ∷ []) ≡ bound_nodes (bound_of t)
unfolding thread_nodes
alone_nodes (act ρ p P) = add-zero _
alone_nodes (repl ρ P) = add-zero _

one_light : {c : ℕ} (t : Placed) → bound_nodes (bound_of t.thread) ≤ c → nodes_of (t ∷ []) ≤ c
one_light t l = omega (arith, alone_nodes t.thread)

pub light_replaced : (x : ℕ) (z : List Placed) (P : Process) (at : ℕ) (ρ : Bound) (n k : ℕ) → growth P ≤ 32
    → nodes_of (replaced_at x z P at ρ n k) ≤ growth P * most P ρ + nodes_of z
light_replaced x z P at ρ n k few =
    let c = most P ρ in
    replaced_spread nodes_of nodes_none nodes_joined c c one_light x z P at ρ n k few (le_refl c)

pub light_inside : (w : CopyStep) (zx zy : List Placed) (P : Process) (at : ℕ) (ρ : Bound) (n k : ℕ) → growth P ≤ 32
    → Copied P ρ w.bound w.copied
    → let s = growth P * most P ρ in
    nodes_of (replaced_at w.place (left_at w zx zy ++ alone w.place (repl w.bound w.copied)) P at ρ n k)
    ≤ s + s + s + nodes_of zx + nodes_of zy
light_inside w zx zy P at ρ n k few copied =
    let c = most P ρ in
    inside_spread nodes_of nodes_none nodes_joined c c one_light w zx zy P at ρ n k few (le_refl c) copied
