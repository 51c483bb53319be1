-- What a traversal that settles comes to: the threads of settling with the positions of their processes, and the limits ("Steps", "Judging
-- and its count").
use Rattle.std.specs.Prelude.{ℕ, suc, ◌+◌, Bool, true, false, ◌||◌, List, [], ◌∷◌, ◌++◌, map, ltb, length}
use Rattle.meaning.specs.Messages.Term.{leaf, private}
use Rattle.meaning.specs.Messages.Normal.{equal}
use Rattle.meaning.specs.Bytes.Process.{Process}
use Rattle.meaning.specs.Steps.State.{Bound, ◌▸◌, written, worked, Thread, act, repl, names, settle}
use Rattle.meaning.specs.Logic.Truth.{any_of}
use Rattle.meaning.specs.Judging.Limits.{over_settling, over_offers, thread_nodes}
use Rattle.state_record.specs.Place.{then_at, else_at, body_at, right_at}
use Rattle.state_record.specs.Record.{Placed}
use Rattle.state_progress.specs.TraversalResult.{Accumulated}

-- The threads of a process that stands at a position and is settled at the private name n.
unfoldable pub settled_at : Process → (at : ℕ) → Bound → (n : ℕ) → List Placed
settled_at Process.nil at ρ n = []
settled_at (Process.new P) at ρ n = settled_at P (at + 1) (ρ ▸ leaf (private n)) (suc n)
settled_at (Process.act p P) at ρ n = record { place = at; thread = act ρ p P } ∷ []
settled_at (Process.if M N P Q) at ρ n =
    elim (equal (written ρ M) (written ρ N)) [ true ↦ settled_at P (then_at at M N) ρ n | false ↦ settled_at Q (else_at at M N P) ρ n ]
settled_at (Process.let_in M P) at ρ n = settled_at P (body_at at M) (ρ ▸ worked ρ M) n
settled_at (Process.par P Q) at ρ n = settled_at P (at + 1) ρ n ++ settled_at Q (right_at at P) ρ (names P ρ n)
settled_at (Process.repl P) at ρ n = record { place = at; thread = repl ρ P } ∷ []

abbrev pub threads_of : List Placed → List Thread
threads_of ps = map (λ t. t.thread) ps

-- What a traversal has come to that meets no limit.
abbrev pub settled_to : Process → (at : ℕ) → Bound → Accumulated → Accumulated
settled_to P at ρ g = record {
  names = names P ρ g.names;
  nodes = g.nodes + thread_nodes (settle P ρ g.names);
  threads = g.threads ++ settled_at P at ρ g.names;
}

-- Whether it meets one: while it settles, or by its threads and those that were there, or at a thread.
abbrev pub over_settled : Process → Bound → Accumulated → Bool
over_settled P ρ g =
    let ts = settle P ρ g.names in
    over_settling P ρ g.names || (ltb 32 (length g.threads + length ts) || ltb 1024 (g.nodes + thread_nodes ts)
    || any_of (λ t. over_offers t (names P ρ g.names)) ts)
