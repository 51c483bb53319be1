-- The blocks before a record and behind it: the shorter one is measured, and the other one has the rest ("Steps").
use mathlib.Core.Path.{◌≡◌}
use mathlib.Core.List.{List}
use Prim.Native.Nat.{ℕ, ◌≤◌}
use native.Mathlib.Omega.{arith}
use lib.ListN.{length}
use Rattle.step_located.specs.Rebuilt.{nodes_of}
use Rattle.successor_rebuild.specs.Block.{Still, Halts}
use Rattle.successor_prefix.specs.Halves.{Rest, Halve}
use Rattle.successor_rebuild.specs.declared.block.Block.{Block}
use Rattle.successor_prefix.specs.declared.halves.Halves.{Halves}
use Rattle.successor_rebuild.proofs.Laws.Kept.{measured}

module _ {out : List ℕ} {start at next end threads nodes : ℕ} {r : Halves} where
  pub halve_before : {b c : Block} → Still out start at at at b → Halts out at at at b → b.end ≤ at → Rest end threads nodes b c
      → r ≡ record { before = b; behind = c } → Halve out start at next end threads nodes r
  halve_before {b} {c} still halts low rest e = record {
    exact = λ s before behind h i t n light.
        let first = measured before h (omega (arith, light)) still halts low in
        let (few, left) = rest.exact (length behind) (nodes_of behind) (omega (arith, t, first.threads)) (omega (arith, n, first.nodes)) in
        rw e (first, record { stands = rw rest.there i.stands; threads = few; nodes = left });
  }

  pub halve_behind : {b c : Block} → Still out next end end end b → Halts out end end end b → b.end ≤ end → Rest at threads nodes b c
      → r ≡ record { before = c; behind = b } → Halve out start at next end threads nodes r
  halve_behind {b} {c} still halts low rest e = record {
    exact = λ s before behind h i t n light.
        let second = measured behind i (omega (arith, light)) still halts low in
        let (few, left) = rest.exact (length before) (nodes_of before) (omega (arith, t, second.threads)) (omega (arith, n, second.nodes)) in
        rw e (record { stands = rw rest.there h.stands; threads = few; nodes = left }, second);
  }

pub ruleset halving = (halve_before, halve_behind)
