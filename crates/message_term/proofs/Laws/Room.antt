-- How far a term is worked ("Judging and its count"): 512 bytes for each node that is left on its path.
use Rattle.std.specs.Prelude.{Option, Some}
use mathlib.Core.Path.{◌≡◌}
use mathlib.Core.List.{List}
use Prim.Native.Nat.{ℕ, ◌+◌, ◌-◌, ◌*◌, ◌/◌, ◌%◌, ◌≤◌}
use native.Mathlib.Omega.{arith}
use lib.ListN.{length, set}
use Rattle.buffer.specs.Buffer.{Within}
use Rattle.message_term.specs.Work.{Reaches}
use Rattle.message_term.specs.declared.work.Worked.{Worked}
use Rattle.buffer.proofs.Laws.Buffer.{one_after, wider, node_within}

-- What one node takes is less than its share.
module _ {m n : List ℕ} {start left : ℕ} (some : left ≡ 0 → ⊥) where
  pub name_room : Within start (start + 2) m n → Within start (start + 512 * left) m n
  name_room w = wider w (omega arith) (omega arith)

  pub variable_room : Within start (start + 510) m n → Within start (start + 512 * left) m n
  variable_room w = wider w (omega arith) (omega arith)

pub node_room : {m n : List ℕ} {start left : ℕ} → (left ≡ 0 → ⊥) → Within start (start + 512 * (left - 1 + 1)) m n
    → Within start (start + 512 * left) m n
node_room {left} some w = wider w (omega arith) (omega arith)

pub leaf_reaches : {start left : ℕ} {r : Option Worked} → (left ≡ 0 → ⊥) → Reaches start 1 r → Reaches start left r
leaf_reaches some h = record {
  there = λ x e. let (low, high, one) = h.there x e in (low, high, omega arith);
}

pub ruleset term_rooms = (name_room, variable_room, node_room, leaf_reaches)

-- There is no second part behind the first one, which ends at mid.
pub none_room : {m n : List ℕ} {mid end : ℕ} (left : ℕ) → n ≡ m → end ≡ mid → mid + 512 * left ≤ length m → end ≤ length n
none_room left e f room = rw e (omega arith)

pub none_within : {m n m₁ : List ℕ} {end : ℕ} (left start mid : ℕ) → Within start end n m₁ → n ≡ m → end ≡ mid
    → Within start (mid + 512 * left) m m₁
none_within left start mid w e f = wider (rw e at w) (omega arith) (omega arith)

-- The second part is too large; or it ends at high.
pub large_within : {m m₁ : List ℕ} (left start mid : ℕ) → Within mid (mid + 512 * left) m m₁ → start ≤ mid
    → Within start (mid + 512 * left) m m₁
large_within left start mid w l = wider w l (omega arith)

module _ {r : Option Worked} {x : Worked} {left mid end : ℕ} (f : end ≡ x.end) (d : r ≡ Some x) (h : Reaches mid left r) where
  reached₂ : (mid ≤ x.end) × (x.end ≤ mid + 510) × (1 ≤ left)
  reached₂ = h.there x d

  pub end_above : mid ≤ end
  end_above = let g = reached₂ in omega arith

  module _ {m m₁ n : List ℕ} (e : n ≡ m₁) (w : Within mid (mid + 512 * left) m m₁) where
    pub end_within : mid + 512 * left ≤ length m → end ≤ length n
    end_within room = let g = reached₂ in rw e (omega (arith, w.long))

    pub joined_within : {m₂ : List ℕ} {start : ℕ} → Within start end n m₂ → start ≤ mid → Within start (mid + 512 * left) m m₂
    joined_within v l = let g = reached₂ in one_after w (rw e at v) (omega arith) (omega arith) (omega arith) (omega arith)

pub ruleset rest_withins = (none_within, large_within, joined_within)

-- The kind and the first part; then the rest.
pub first_within : {m m₁ m₂ : List ℕ} (left start kind : ℕ) → Within (start + 2) (start + 2 + 512 * left) m₁ m₂
    → m₁ ≡ set (set m start (kind % 256)) (start + 1) (kind / 256) → start + 512 * (left + 1) ≤ length m
    → Within start (start + 512 * (left + 1)) m m₂
first_within {m} left start kind v w room =
    one_after (node_within m start kind w (omega arith)) v (omega arith) (omega arith) (omega arith) (omega arith)

module _ {r : Option Worked} {x : Worked} (left start : ℕ) (e : r ≡ Some x) (h : Reaches (start + 2) left r) where
  reached₁ : (start + 2 ≤ x.end) × (x.end ≤ start + 2 + 510) × (1 ≤ left)
  reached₁ = h.there x e

  pub mid_above : start ≤ x.end
  mid_above = let g = reached₁ in omega arith

  pub mid_base : {base : ℕ} → base ≤ start → base ≤ x.end
  mid_base l = let g = reached₁ in omega arith

  pub mid_room : {m m₁ : List ℕ} → Within start (start + 512 * (left + 1)) m m₁ → start + 512 * (left + 1) ≤ length m
      → x.end + 512 * left ≤ length m₁
  mid_room w room = let g = reached₁ in omega (arith, w.long)

  pub rest_within : {m m₁ m₂ : List ℕ} → Within start (x.end + 512 * left) m₁ m₂ → Within start (start + 512 * (left + 1)) m m₁
      → Within start (start + 512 * (left + 1)) m m₂
  rest_within v w = let g = reached₁ in one_after w v (omega arith) (omega arith) (omega arith) (omega arith)

pub ruleset node_rooms = (mid_above, mid_base, mid_room)
