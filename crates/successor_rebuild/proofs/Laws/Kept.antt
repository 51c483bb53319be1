-- All the records from a position to another are one block, and a block is kept by a traversal that goes on ("Steps").
use mathlib.Core.Path.{◌≡◌, refl, sym, ap, ◌∙◌}
use mathlib.Core.Bool.{true, false, true≢false}
use mathlib.Core.List.{List, [], ◌∷◌, append-nil}
use Prim.Native.Nat.{ℕ, ◌≤◌}
use native.Mathlib.Omega.{arith}
use Rattle.state_record.specs.Record.{Placed}
use Rattle.state_progress.specs.declared.progress.Progress.{Progress}
use Rattle.step_located.specs.Rebuilt.{nodes_of}
use Rattle.step_located.proofs.Laws.SpreadRoom.{nodes_joined}
use Rattle.step_transition.specs.Threads.{Threads}
use Rattle.successor_rebuild.specs.Block.{BlockOf, Parted, Still, Halts, Keeps, KeepsOn}
use Rattle.successor_rebuild.specs.declared.block.Block.{Block}
use Rattle.successor_rebuild.proofs.Laws.Rebuild.{threads_long}

module _ {out : List ℕ} {at : ℕ} {b : Block} {now : Progress} where
  pub kept_none : now.going ≡ false → KeepsOn out at b now now out
  kept_none off = record {
    stopped = λ e. (refl, refl);
    exact = λ s ts g h l p d. absurd (true≢false (sym d.on ∙ off));
  }

  pub kept_on : {r : Progress} {after : List ℕ} → now.going ≡ true → Keeps out at b now r after → KeepsOn out at b now r after
  kept_on on keeps = record { stopped = λ off. absurd (true≢false (sym on ∙ off)); exact = keeps.exact }

pub ruleset keepings_on = (kept_none, kept_on)

-- No thread acts at the end, so the block has them all if they are within the limit of nodes.
pub measured : {s out : List ℕ} {at to k : ℕ} {b : Block} (ps : List Placed) → Threads s out at k ps to → nodes_of ps ≤ 1024
    → Still out at to to to b → Halts out to to to b → b.end ≤ to → BlockOf out at ps b
measured {s} {out} {at} {to} {k} {b} ps h light still halts low = of (still.exact s ps h)
  where
    by_others : (q : Parted s out at to to to k ps b) (others : List Placed) → q.others ≡ others → BlockOf out at ps b
    by_others q [] e = rw (q.whole, e, append-nil q.front) q.block
    by_others q (t ∷ ts) e =
        let behind = rw e at q.behind in
        let long = threads_long t ts behind in
        let nodes : b.nodes ≤ 1024 = omega (arith, q.block.nodes, ap nodes_of q.whole, nodes_joined q.front q.others) in
        let acts : b.end ≡ to = halts.acts s (t ∷ ts) behind (omega arith) nodes (λ z. omega arith) in
        absurd (omega arith)

    of : Parted s out at to to to k ps b → BlockOf out at ps b
    of q = by_others q q.others refl
