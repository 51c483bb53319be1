-- What makes trees a sort ("Bytes"): each is a node in the shape that is said in specs/Shape.antt.
use Rattle.std.specs.Prelude.{◌≡◌, ℕ, ◌-◌, ◌≤◌, Bool, List}
use Rattle.decode_number.specs.Answer.{Extent}
use Rattle.decode_layout.specs.declared.layout.Layout.{Layout}
use Rattle.decode_layout.specs.Layout.{parts, layout_of}
use Rattle.decode_term.specs.Shape.{head_of, node}

-- What is read of a tree at the end of a path: a head, and the parts that follow it.
abbrev pub node_at : {P : Type 0} (kinds : ℕ) (table : List Layout) (left : P → ℕ) (room : P → (k : ℕ) → Bool)
    (own : P → List ℕ → (k at : ℕ) → Extent) (below : P → (k : ℕ) → P) (tree : P → List ℕ → (at : ℕ) → Extent)
    → P → List ℕ → (at : ℕ) → Extent
node_at kinds table left room own below tree p s at =
    node (head_of kinds (left p) (room p) (own p s) s at) table (λ k e. tree (below p k) s e)

-- No kind has more than two parts, a part has one node less left on its path, and a tree is a node.
pub record Nodes {P : Type 0} (kinds : ℕ) (table : List Layout) (left : P → ℕ) (room : P → (k : ℕ) → Bool)
    (own : P → List ℕ → (k at : ℕ) → Extent) (below : P → (k : ℕ) → P) (tree : P → List ℕ → (at : ℕ) → Extent) : Type 0 where
  pub few : (k : ℕ) → parts (layout_of table k) ≤ 2
  pub falls : (p : P) (k : ℕ) → left (below p k) ≡ left p - 1
  pub shape : (p : P) (s : List ℕ) (at : ℕ) → tree p s at ≡ node_at kinds table left room own below tree p s at
