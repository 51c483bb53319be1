-- What an answer shows of a list of moves, and of a longer one, with what is sent and on what ("Steps").
use Rattle.std.specs.Prelude.{Option, Some, None}
use mathlib.Core.Path.{◌≡◌, refl, sym}
use mathlib.Core.List.{List, [], ◌∷◌, ◌++◌}
use Prim.Native.Nat.{ℕ}
use lib.ListN.{length}
use Rattle.meaning.specs.Places.{Every, none, ◌also◌}
use Rattle.meaning.specs.Bytes.Standing.{Stands}
use Rattle.step_transition.specs.Moves.{Move, alone, inside, between}
use Rattle.step_transition.specs.Step.{Shown, run_of}
use Rattle.step_label.specs.declared.step.Step.{Step}
use Rattle.step_transition.proofs.Laws.Shown.{found_or_none}
use Rattle.step_between.specs.Buffered.{channel_run, Buffered, Answered}

-- What is shown first is shown of more; where nothing is shown, there is nothing, and what comes next is shown.
module _ (start : ℕ) (on said : List ℕ) where
  pub answered_more : (v : Step) (xs ys : List Move) → Answered start on said (Some v) xs → Answered start on said (Some v) (xs ++ ys)
  answered_more v [] ys e = absurd (found_or_none e)
  answered_more v (x ∷ xs) ys h = h

  pub answered_none : (xs : List Move) → Answered start on said None xs → xs ≡ []
  answered_none [] e = refl
  answered_none (x ∷ xs) e = absurd (found_or_none (sym e.0))

pub answered_next : (start : ℕ) (on₁ said₁ on said : List ℕ) (r : Option Step) (xs ys : List Move) → Answered start on₁ said₁ None xs
    → Answered start on said r ys → Answered start on said r (xs ++ ys)
answered_next start on₁ said₁ on said r xs ys e h = rw (answered_none start on₁ said₁ xs e) h

-- A step that is not one of two threads keeps no channel.
abbrev pub Unshared : Move → Type 0
Unshared (alone p a) = Unit {0}
Unshared (inside p j) = Unit {0}
Unshared (between p q v) = ⊥

unshared_kept : (on said : List ℕ) (w : Move) → Unshared w → Stands said 0 (run_of w) (length (run_of w)) → Buffered on said w
unfolding channel_run
unshared_kept on said (alone p a) u h = record { on = record { bytes = refl; size = refl }; sent = h }
unshared_kept on said (inside p j) u h = record { on = record { bytes = refl; size = refl }; sent = h }
unshared_kept on said (between p q v) u h = absurd u

pub answered_unshared : (start : ℕ) (on said : List ℕ) (r : Option Step) {ws : List Move} → Every Unshared ws → Shown start said r ws
    → Answered start on said r ws
answered_unshared start on said r none h = h
answered_unshared start on said r (◌also◌ {x = w} u us) h = (h.0, unshared_kept on said w u h.1)
