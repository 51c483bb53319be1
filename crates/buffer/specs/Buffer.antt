-- What a call does to a lent buffer.
use Rattle.std.specs.Prelude.{◌≡◌, List, ℕ, length, take, drop}

-- What a call leaves as it was: the length, and all bytes but those from the position low up to the position high.
pub record Within (low high : ℕ) (before after : List ℕ) : Type 0 where
  pub long : length after ≡ length before
  pub below : take low after ≡ take low before
  pub above : drop high after ≡ drop high before

-- Nothing is written before the position low.
abbrev pub WrittenFrom : (low : ℕ) → (before after : List ℕ) → Type 0
WrittenFrom low before after = Within low (length before) before after

abbrev pub SameLength : (before after : List ℕ) → Type 0
SameLength before after = length after ≡ length before
