-- Strong early bisimulation ("Steps", last paragraph).
use Rattle.std.specs.Prelude.{◌≡◌, ◌↔◌, ℕ, length}
use Rattle.meaning.specs.Messages.Term.{Recipe}
use Rattle.meaning.specs.Messages.Equation.{Equal}
use Rattle.meaning.specs.Bytes.Formula.{Label}
use Rattle.meaning.specs.Bytes.Scope.{TermScoped, LabelScoped}
use Rattle.meaning.specs.Steps.State.{written, State}
use Rattle.meaning.specs.Steps.Step.{Step}

-- One alias for each output step made.
abbrev pub outputs : State → ℕ
outputs S = length S.aliases

-- No two recipes over the aliases tell the states apart by being equal in one and not in the other.
abbrev pub StaticallyEquivalent : State → State → Type 0
StaticallyEquivalent S T =
    (M N : Recipe) → TermScoped (outputs S) M → TermScoped (outputs S) N
    → Equal (written S.aliases M) (written S.aliases N) ↔ Equal (written T.aliases M) (written T.aliases N)

-- Whatever S does, T can do under the very same label, so that R holds again afterwards.
abbrev pub Matched {ℓ} : (State → State → Type ℓ) → State → State → Type ℓ
Matched R S T =
    (a : Label) → LabelScoped (outputs S) a → (S' : State) → Step S a S'
    → ∥ ((T' : State) × Step T a T' × R S' T') ∥₁

-- R may be any relation on states for which all this holds of every two states that it relates.
pub record Bisimulation {ℓ} (R : State → State → Type ℓ) : Type ℓ where
  pub as_many : (S T : State) → R S T → outputs S ≡ outputs T
  pub static : (S T : State) → R S T → StaticallyEquivalent S T
  pub forth : (S T : State) → R S T → Matched R S T
  pub back : (S T : State) → R S T → Matched (λ U W. R W U) T S
