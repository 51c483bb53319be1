-- Classical FM: truth as the table has it, over the step rules, and its evaluator over the enumeration ("Steps", last
-- paragraph).
use Rattle.std.specs.Prelude.{Bool, false, ◌&&◌, ◌||◌, List, [], ◌∷◌}
use Rattle.std.proofs.Math.Bool
use Rattle.meaning.specs.Messages.Equation.{Equal}
use Rattle.meaning.specs.Messages.Normal
use Rattle.meaning.specs.Bytes.Process.{Process}
use Rattle.meaning.specs.Bytes.Formula.{Formula}
use Rattle.meaning.specs.Steps.State.{written, State, start}
use Rattle.meaning.specs.Steps.Step.{Step}
use Rattle.meaning.specs.Steps.Enumeration.{steps}

abbrev pub True : Formula → State → Type 0
True (Formula.equal M N) S = Equal (written S.aliases M) (written S.aliases N)
True (Formula.not F) S = ¬ (True F S)
True (Formula.and F G) S = True F S × True G S
True (Formula.step a F) S = (T : State) × Step S a T × True F T

-- Truth of a model is truth at its start state; falsity is its negation.
abbrev pub TrueOf : Formula → Process → Type 0
TrueOf F P = True F (start P)

-- The evaluator.
unfoldable pub any_of : {A : Type 0} → (A → Bool) → List A → Bool
any_of p [] = false
any_of p (x ∷ xs) = p x || any_of p xs

unfoldable pub holds : Formula → State → Bool
holds (Formula.equal M N) S = Normal.equal (written S.aliases M) (written S.aliases N)
holds (Formula.not F) S = Bool.not (holds F S)
holds (Formula.and F G) S = holds F S && holds G S
holds (Formula.step a F) S = any_of (holds F) (steps S a)
