-- What a traversal of a process has come to ("Steps": settling goes left to right).
use Rattle.std.specs.Prelude.{ℕ, suc, ◌+◌, Bool, true, false, ◌||◌, List, [], ◌∷◌, ◌++◌, ltb, length}
use Rattle.meaning.specs.Messages.Term.{Message}
use Rattle.meaning.specs.Steps.State.{Thread}
use Rattle.meaning.specs.Judging.Limits.{bound_nodes}
use Rattle.state_record.specs.Record.{Placed, bound_of}

-- The next private name, the nodes of all bound messages so far, and the threads that were written.
pub record Accumulated : Type 0 where
  pub names : ℕ
  pub nodes : ℕ
  pub threads : List Placed

-- A traversal goes on; or it met a limit; or it has found the thread that it seeks: its position, the next private name, all copies on the way
-- being opened, and the messages that it hands over.
pub data TraversalResult : Type 0 where
  going : Accumulated → TraversalResult
  over_limit : TraversalResult
  found : (place next : ℕ) → List Message → TraversalResult

-- What comes next is done only by a traversal that goes on.
abbrev pub further : TraversalResult → (Accumulated → TraversalResult) → TraversalResult
further (going g) f = f g
further over_limit f = over_limit
further (found x n ms) f = found x n ms

-- A limit is met where the test says so.
abbrev pub unless : Bool → TraversalResult → TraversalResult
unless true c = over_limit
unless false c = c

abbrev pub named : ℕ → Accumulated → Accumulated
named n g = record { names = n; nodes = g.nodes; threads = g.threads }

-- Private names that were taken are given back.
abbrev pub returned : ℕ → TraversalResult → TraversalResult
returned n c = further c (λ h. going (named n h))

-- A thread is written, with its limits: 32 threads, 1,024 nodes.
unfoldable pub push : ℕ → Thread → Accumulated → TraversalResult
push at t g =
    unless (ltb 32 (suc (length g.threads)) || ltb 1024 (g.nodes + bound_nodes (bound_of t)))
    (going (record {
      names = g.names;
      nodes = g.nodes + bound_nodes (bound_of t);
      threads = g.threads ++ (record { place = at; thread = t } ∷ []);
    }))
