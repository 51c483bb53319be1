-- The lists that a step leaves, with the positions of the processes of their threads, and how they are written ("Steps").
use Rattle.std.specs.Prelude.{ℕ, Bool, ◌||◌, List, [], ◌∷◌}
use Rattle.meaning.specs.Bytes.Process.{Process}
use Rattle.meaning.specs.Steps.State.{Bound, Thread, names, settle}
use Rattle.meaning.specs.Logic.Truth.{any_of}
use Rattle.meaning.specs.Judging.Limits.{over_settling, over_offers, thread_nodes}
use Rattle.state_record.specs.Place.{rest_at}
use Rattle.state_record.specs.Record.{Placed}
use Rattle.state_progress.specs.TraversalResult.{Accumulated, TraversalResult, going, further, push}
use Rattle.step_located.specs.Located.{LocatedOffer, replaced_as}
use Rattle.step_located.specs.CopyStep.{CopyStep, both_replaced_as, left_as}
use Rattle.state_head.specs.Settled.{settled_at, threads_of}

-- A thread with its position, by itself.
abbrev pub alone : ℕ → Thread → List Placed
alone at t = record { place = at; thread = t } ∷ []

-- The nodes of threads with positions.
abbrev pub nodes_of : List Placed → ℕ
nodes_of ps = thread_nodes (threads_of ps)

-- As `replaced`, `both_replaced` and `left`, each thread with its position.
abbrev pub placed_at : ℕ → Thread → Placed
placed_at at t = record { place = at; thread = t }

abbrev pub replaced_at : (x : ℕ) → (z : List Placed) → Process → (at : ℕ) → Bound → (n k : ℕ) → List Placed
replaced_at x z P at ρ n k = replaced_as placed_at x z P at ρ n k

abbrev pub both_replaced_at : (x : ℕ) → (zx : List Placed) → (y : ℕ) → (zy : List Placed) → Process → (at : ℕ) → Bound → (n k j : ℕ)
    → List Placed
both_replaced_at x zx y zy P at ρ n k j = both_replaced_as placed_at x zx y zy P at ρ n k j

abbrev pub left_at : CopyStep → List Placed → List Placed → List Placed
left_at w zx zy = left_as placed_at w zx zy

-- What follows a thread that acts, settled at the private name r under the messages σ; and whether it meets a limit of its own there,
-- besides those on all threads and all nodes.
abbrev pub rest_of : LocatedOffer → Bound → (r : ℕ) → List Placed
rest_of a σ r = settled_at a.rest (rest_at a.place a.prefix) σ r

abbrev pub over_rest : LocatedOffer → Bound → (r : ℕ) → Bool
over_rest a σ r = over_settling a.rest σ r || any_of (λ t. over_offers t (names a.rest σ r)) (settle a.rest σ r)

-- Threads are written one after the other.
unfoldable pub push_all : List Placed → Accumulated → TraversalResult
push_all [] g = going g
push_all (t ∷ ts) g = further (push t.place t.thread g) (push_all ts)
