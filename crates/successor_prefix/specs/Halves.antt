-- The threads before one and those behind it, as two blocks ("Steps").
use Rattle.std.specs.Prelude.{◌≡◌, List, ℕ, ◌+◌, ◌≤◌, length}
use Rattle.state_record.specs.Record.{Placed}
use Rattle.step_located.specs.Rebuilt.{nodes_of}
use Rattle.step_transition.specs.Threads.{Threads}
use Rattle.successor_rebuild.specs.Block.{BlockOf}
use Rattle.successor_rebuild.specs.declared.block.Block.{Block}
use Rattle.successor_prefix.specs.declared.halves.Halves.{Halves}

-- A block that ends at a position, with what is left without another one.
pub record Rest (end threads nodes : ℕ) (other r : Block) : Type 0 where
  pub there : r.end ≡ end
  pub exact : (t n : ℕ) → threads ≡ t + other.threads → nodes ≡ n + other.nodes → (r.threads ≡ t) × (r.nodes ≡ n)

-- Whatever threads have their records before a record and behind it, the blocks have them.
pub record Halve (out : List ℕ) (start at next end threads nodes : ℕ) (r : Halves) : Type 0 where
  pub exact : (s : List ℕ) (before behind : List Placed) {k : ℕ} → Threads s out start k before at → Threads s out next k behind end
      → threads ≡ length before + length behind → nodes ≡ nodes_of before + nodes_of behind → nodes ≤ 1024
      → BlockOf out start before r.before × BlockOf out next behind r.behind
