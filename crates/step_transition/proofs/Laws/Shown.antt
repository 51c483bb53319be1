-- What an answer shows of a list of moves, and of a longer one ("Steps").
use Rattle.std.specs.Prelude.{Option, Some, None}
use mathlib.Core.Path.{◌≡◌, refl, sym}
use mathlib.Core.List.{List, [], ◌∷◌, ◌++◌}
use Prim.Native.Nat.{ℕ}
use native.Mathlib.Omega.{arith}
use Rattle.step_transition.specs.Moves.{Move}
use Rattle.step_transition.specs.Step.{Shown}
use Rattle.step_label.specs.declared.step.Step.{Step}

-- A step is one thing, none another.
pub found_or_none : {v : Step} → Some v ≡ None → ⊥
found_or_none e = let z : ◌≡◌ {A = ℕ} 0 1 = cc in omega arith

-- What is shown first is shown of more; where nothing is shown, there is nothing, and what comes next is shown.
module _ (start : ℕ) (said : List ℕ) where
  pub shown_more : (v : Step) (xs ys : List Move) → Shown start said (Some v) xs → Shown start said (Some v) (xs ++ ys)
  shown_more v [] ys e = absurd (found_or_none e)
  shown_more v (x ∷ xs) ys h = h

  pub shown_none : (xs : List Move) → Shown start said None xs → xs ≡ []
  shown_none [] e = refl
  shown_none (x ∷ xs) e = absurd (found_or_none (sym e.0))

pub shown_next : (start : ℕ) (said₁ said : List ℕ) (r : Option Step) (xs ys : List Move) → Shown start said₁ None xs → Shown start said r ys
    → Shown start said r (xs ++ ys)
shown_next start said₁ said r xs ys e h = rw (shown_none start said₁ xs e) h
