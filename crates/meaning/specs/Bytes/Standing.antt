-- Bytes that stand at a position of a slice ("Bytes").
use Rattle.std.specs.Prelude.{◌≡◌, List, ◌++◌, ℕ, ◌+◌, length, drop}

-- The bytes xs stand in s from the position at to the position end.
pub record Stands (s : List ℕ) (at : ℕ) (xs : List ℕ) (end : ℕ) : Type 0 where
  pub bytes : drop at s ≡ xs ++ drop end s
  pub size : end ≡ at + length xs
