-- The theorems, each stated over the definitions and nothing else. Their proofs are in proofs/, under the same names
-- in snake case.
use Rattle.std.specs.Prelude.{◌≡◌, ◌↔◌, ◌⊎◌, false, List, map, ℕ, ◌≤◌, ◌<◌, T, length}
use Rattle.std.proofs.Math.Option.{some}
use Rattle.std.proofs.Math.ListN.{get_elem?}
use Rattle.meaning.specs.Messages.Term.{Message}
use Rattle.meaning.specs.Messages.Equation.{◌≈◌, Equal, Normal}
use Rattle.meaning.specs.Messages.Normal.{normal, equal}
use Rattle.meaning.specs.Bytes.Process.{Process}
use Rattle.meaning.specs.Bytes.Formula.{Label, Formula}
use Rattle.meaning.specs.Bytes.Scope.{FormulaScoped}
use Rattle.meaning.specs.Bytes.WellFormed.{Bytes, IsModel, IsFormula}
use Rattle.meaning.specs.Bytes.Number.{found, refused}
use Rattle.meaning.specs.Bytes.Reading.{read_model, read_formula}
use Rattle.meaning.specs.Bytes.Refusal.{Field, Refusal, process, formula}
use Rattle.meaning.specs.Places.{Some, Every, OneToOne}
use Rattle.meaning.specs.Steps.State.{Thread, State, start}
use Rattle.meaning.specs.Steps.Invariant.{ThreadStored, Invariant}
use Rattle.meaning.specs.Judging.Limits.{over_offers}
use Rattle.meaning.specs.Steps.Step.{Step}
use Rattle.meaning.specs.Steps.Enumeration.{steps}
use Rattle.meaning.specs.Logic.Truth.{True, TrueOf, any_of, holds}
use Rattle.meaning.specs.Logic.Bisimulation.{outputs, Bisimulation}
use Rattle.meaning.specs.Judging.Visits.{Arrival, arrivals, meets, visits, count_of, MeetsNoLimit}
use Rattle.meaning.specs.Judging.{judge}
use Rattle.meaning.specs.Verdict.{Answer, work_bytes, verdict, work_after}
use Rattle.meaning.specs.Verdict.Answered.{Formed, Answered}

-- Demand 2, messages: equal by the equations exactly when the normal forms are the same, and the test decides it.
abbrev pub EqualByNormalForms : Type 0
EqualByNormalForms = (m n : Message) → (m ≈ n) ↔ (normal m ≡ normal n)

abbrev pub NormalForms : Type 0
NormalForms = (m : Message) → Normal (normal m) × (normal m ≈ m)

abbrev pub EqualityDecided : Type 0
EqualityDecided = (m n : Message) → Equal m n ↔ T (equal m n)

-- Reading succeeds exactly on the well-formed slices, to their end, and gives the one tree, whose encoding is the slice.
abbrev pub ModelsRead : Type 0
ModelsRead =
    (s : List ℕ) (P : Process) → (IsModel s P → read_model s ≡ found P (length s))
    × (Bytes s → (end : ℕ) → read_model s ≡ found P end → IsModel s P)

abbrev pub FormulasRead : Type 0
FormulasRead =
    (s : List ℕ) (F : Formula) → (IsFormula s F → read_formula s ≡ found F (length s))
    × (Bytes s → (end : ℕ) → read_formula s ≡ found F end → IsFormula s F)

-- A slice is refused exactly as the rules say, by number and place.
abbrev pub ModelsRefused : Type 0
ModelsRefused =
    (s : List ℕ) (number place : ℕ) → (read_model s ≡ refused number place) ↔ Refusal s (process 64 0) number place

abbrev pub FormulasRefused : Type 0
FormulasRefused =
    (s : List ℕ) (number place : ℕ) → (read_formula s ≡ refused number place) ↔ Refusal s (formula 48 16 0) number place

-- The slices that no rule refuses are exactly the well-formed ones.
abbrev pub ModelsFormed : Type 0
ModelsFormed =
    (s : List ℕ) → Bytes s → ((P : Process) × IsModel s P) ↔ ((number place : ℕ) → ¬ (Refusal s (process 64 0) number place))

abbrev pub FormulasFormed : Type 0
FormulasFormed =
    (s : List ℕ) → Bytes s → ((F : Formula) × IsFormula s F) ↔ ((number place : ℕ) → ¬ (Refusal s (formula 48 16 0) number place))

-- Request 2.2: every number that stands in a slice of bytes is a public name, so no slice is refused with 5.
abbrev pub NeverNameRange : Type 0
NeverNameRange = (s : List ℕ) → Bytes s → (root : Field) (place : ℕ) → ¬ (Refusal s root 5 place)

-- Demand 2, steps: what the rules derive and what the list has are the same, one for one. Whatever property P of states is asked for,
-- the derivations that lead to a state with P and the places of the list with P correspond one to one.
abbrev pub StepsEnumerated : Type 1
StepsEnumerated =
    (S : State) (a : Label) (P : State → Type 0) → OneToOne ((T : State) × Step S a T × P T) (Some P (steps S a))

-- Demand 2, truth: the evaluator agrees with the table.
abbrev pub TruthEvaluated : Type 0
TruthEvaluated = (F : Formula) (S : State) → True F S ↔ T (holds F S)

-- Related states make the same formulas true.
abbrev pub RelatedAgree {ℓ} : Type (ℓ + 1)
RelatedAgree =
    (R : State → State → Type ℓ) → Bisimulation R → (F : Formula) (S T : State) → R S T → FormulaScoped (outputs S) F
    → True F S ↔ True F T

-- There are bisimulations: every state is related to itself by equality.
abbrev pub EqualityBisimulates : Type 0
EqualityBisimulates = Bisimulation {0} (λ S T. S ≡ T)

-- Every state that is reached holds normal forms alone, with no private names but those it has made.
abbrev pub InvariantHolds : Type 0
InvariantHolds =
    ((P : Process) → Invariant (start P)) × ((S T : State) (a : Label) → Step S a T → Invariant S → Invariant T)

-- Whichever copy of a repl thread is opened, and however late, the same limits are met: `over_offers` may ask the first alone.
abbrev pub CopiesAlike : Type 0
CopiesAlike = (t : Thread) (n m : ℕ) → ThreadStored n t → n ≤ m → over_offers t m ≡ over_offers t n

-- What is judged after a step are the states of the enumeration, each once and in its order.
abbrev pub ArrivalsAreSteps : Type 0
ArrivalsAreSteps = (S : State) (a : Label) → map (λ A. A.state) (arrivals S a) ≡ steps S a

-- Judging counts the visits, and says whether one of them met a limit.
abbrev pub VisitsCounted : Type 0
VisitsCounted =
    (F : Formula) (A : Arrival) → ((judge F A).count ≡ length (visits F A)) × ((judge F A).limited ≡ any_of meets (visits F A))

-- Where no visit met a limit, the judged truth is the truth of the table.
abbrev pub JudgedTruth : Type 0
JudgedTruth =
    (F : Formula) (A : Arrival) → Every (λ v. meets v ≡ false) (visits F A) → T (judge F A).truth ↔ True F A.state

-- All four numbers: the verdict is the answer that the rules give, and no other.
abbrev pub VerdictExact : Type 0
VerdictExact =
    (first second formula : List ℕ) (work budget : ℕ) → Bytes first → Bytes second → Bytes formula
    → (a : Answer) → (verdict first second formula work budget ≡ a) ↔ Answered first second formula work budget a

-- Request 2.2: and so 5 is the answer to no input.
abbrev pub NeverAnsweredNameRange : Type 0
NeverAnsweredNameRange =
    (first second formula : List ℕ) (work budget : ℕ) → Bytes first → Bytes second → Bytes formula
    → ¬ ((verdict first second formula work budget).result ≡ 5)

-- Demand 3, first half: result 0 excludes every strong early bisimulation between the start states.
abbrev pub AcceptedExcludes {ℓ} : Type (ℓ + 1)
AcceptedExcludes =
    (first second formula : List ℕ) (work budget : ℕ) → Bytes first → Bytes second → Bytes formula
    → (verdict first second formula work budget).result ≡ 0 → (P Q : Process) → IsModel first P → IsModel second Q
    → (R : State → State → Type ℓ) → Bisimulation R → ¬ (R (start P) (start Q))

-- Demand 3, second half: exactly when a finding is accepted.
pub record Acceptable (first second formula : List ℕ) (work budget : ℕ) : Type 0 where
  pub P : Process
  pub Q : Process
  pub F : Formula
  pub formed : Formed first second formula work P Q F
  pub true_of_first : TrueOf F P
  pub false_of_second : ¬ (TrueOf F Q)
  pub within_budget : count_of P Q F ≤ budget
  pub unlimited : MeetsNoLimit P Q F

abbrev pub AcceptedExactly : Type 0
AcceptedExactly =
    (first second formula : List ℕ) (work budget : ℕ) → Bytes first → Bytes second → Bytes formula
    → ((verdict first second formula work budget).result ≡ 0) ↔ Acceptable first second formula work budget

-- Every work byte: untouched by the results 1 to 9; after 0 and after 10 to 13 the first 65,536 are 0, later ones unchanged.
pub record Cleared (before after : List ℕ) : Type 0 where
  pub as_long : length after ≡ length before
  pub cleared : (i : ℕ) → i < work_bytes → get_elem? after i ≡ some 0
  pub unchanged : (i : ℕ) → work_bytes ≤ i → get_elem? after i ≡ get_elem? before i

abbrev pub WorkBytesAfter : Type 0
WorkBytesAfter =
    (first second formula work : List ℕ) (budget : ℕ) → Bytes first → Bytes second → Bytes formula
    → let result = (verdict first second formula (length work) budget).result in
    ((1 ≤ result) × (result ≤ 9) → work_after first second formula work ≡ work)
    × ((result ≡ 0) ⊎ (10 ≤ result) → Cleared work (work_after first second formula work))
