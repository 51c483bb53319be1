-- What a refusal says, apart from the readers of trees ("Turned back for the input"). A slice is gone through from left to right, with
-- the fields that are still due; a refusal names a place that is reached so and the rule that the number there breaks.
use Rattle.std.specs.Prelude.{◌≡◌, ℕ, suc, ◌≤◌, ◌<◌, ◌-◌, List, [], ◌∷◌, ◌++◌, length, drop}
use Rattle.std.proofs.Math.ListN.{get_elem?}
use Rattle.std.proofs.Math.Option.{some}
use Rattle.meaning.specs.Bytes.Scope.{largest_name}
use Rattle.meaning.specs.Bytes.Kind.{TermKind, term_kinds, ProcessKind, process_kinds, FormulaKind, formula_kinds}
use Rattle.meaning.specs.Bytes.Number.{found, number}

-- A field, with what is left of its nesting limits on this path and how many variables or aliases are in scope.
pub data Field : Type 0 where
  name : Field
  index : (scope : ℕ) → Field
  term : (left scope : ℕ) → Field
  process : (left scope : ℕ) → Field
  formula : (left steps scope : ℕ) → Field

-- The fields of each kind.
abbrev pub term_fields : (left scope : ℕ) → TermKind → List Field
term_fields left scope TermKind.name = name ∷ []
term_fields left scope TermKind.variable = index scope ∷ []
term_fields left scope (TermKind.proj side) = term left scope ∷ []
term_fields left scope (TermKind.binary b) = term left scope ∷ term left scope ∷ []

abbrev pub process_fields : (left scope : ℕ) → ProcessKind → List Field
process_fields left scope ProcessKind.nil = []
process_fields left scope ProcessKind.new = process left (suc scope) ∷ []
process_fields left scope ProcessKind.output = term 8 scope ∷ term 8 scope ∷ process left scope ∷ []
process_fields left scope ProcessKind.input = term 8 scope ∷ process left (suc scope) ∷ []
process_fields left scope ProcessKind.if = term 8 scope ∷ term 8 scope ∷ process left scope ∷ process left scope ∷ []
process_fields left scope ProcessKind.let_in = term 8 scope ∷ process left (suc scope) ∷ []
process_fields left scope ProcessKind.par = process left scope ∷ process left scope ∷ []
process_fields left scope ProcessKind.repl = process left scope ∷ []

abbrev pub formula_fields : (left steps scope : ℕ) → FormulaKind → List Field
formula_fields left steps scope FormulaKind.equal = term 8 scope ∷ term 8 scope ∷ []
formula_fields left steps scope FormulaKind.not = formula left steps scope ∷ []
formula_fields left steps scope FormulaKind.and = formula left steps scope ∷ formula left steps scope ∷ []
formula_fields left steps scope FormulaKind.output = term 8 scope ∷ formula left (steps - 1) (suc scope) ∷ []
formula_fields left steps scope FormulaKind.input = term 8 scope ∷ term 8 scope ∷ formula left (steps - 1) scope ∷ []
formula_fields left steps scope FormulaKind.silent = formula left (steps - 1) scope ∷ []

-- Kinds that bind a variable, and kinds that are step formulas.
pub data Binder : ProcessKind → Type 0 where
  new : Binder ProcessKind.new
  input : Binder ProcessKind.input
  let_in : Binder ProcessKind.let_in

pub data StepKind : FormulaKind → Type 0 where
  output : StepKind FormulaKind.output
  input : StepKind FormulaKind.input
  silent : StepKind FormulaKind.silent

-- The fields that are due at a position, once all before it has been gone through.
pub data Due (s : List ℕ) (root : Field) : ℕ → List Field → Type 0 where
  start : length s ≤ 4096 → Due s root 0 (root ∷ [])
  named : {p n e : ℕ} {fs : List Field} → Due s root p (name ∷ fs) → number s p ≡ found n e → n ≤ largest_name → Due s root e fs
  indexed : {p k e scope : ℕ} {fs : List Field} → Due s root p (index scope ∷ fs) → number s p ≡ found k e → k < scope → Due s root e fs
  in_term : {p n e left scope : ℕ} {k : TermKind} {fs : List Field}
      → Due s root p (term (suc left) scope ∷ fs) → number s p ≡ found n e → get_elem? term_kinds n ≡ some k
      → Due s root e (term_fields left scope k ++ fs)
  in_process : {p n e left scope : ℕ} {k : ProcessKind} {fs : List Field}
      → Due s root p (process (suc left) scope ∷ fs) → number s p ≡ found n e → get_elem? process_kinds n ≡ some k
      → (Binder k → scope < 12) → Due s root e (process_fields left scope k ++ fs)
  in_formula : {p n e left steps scope : ℕ} {k : FormulaKind} {fs : List Field}
      → Due s root p (formula (suc left) steps scope ∷ fs) → number s p ≡ found n e → get_elem? formula_kinds n ≡ some k
      → (StepKind k → 0 < steps) → Due s root e (formula_fields left steps scope k ++ fs)

-- A number of which the first byte, or the second that it asks for, is missing.
pub data EndsEarly : List ℕ → Type 0 where
  no_byte : EndsEarly []
  one_byte : {b : ℕ} → 128 ≤ b → EndsEarly (b ∷ [])

-- A second byte that is not 1 to 127.
pub data Malformed : List ℕ → Type 0 where
  second_zero : {b : ℕ} {rest : List ℕ} → 128 ≤ b → Malformed (b ∷ 0 ∷ rest)
  second_over : {b c : ℕ} {rest : List ℕ} → 128 ≤ b → 128 ≤ c → Malformed (b ∷ c ∷ rest)

-- Numbers that stand for no kind of the field.
abbrev pub Unlisted : Field → ℕ → Type 0
Unlisted name k = ⊥
Unlisted (index scope) k = ⊥
Unlisted (term left scope) k = 8 ≤ k
Unlisted (process left scope) k = 8 ≤ k
Unlisted (formula left steps scope) k = 6 ≤ k

-- Kinds that are nested too deep: no node left on the path, a thirteenth variable, or no step formula left.
pub data TooDeep : Field → ℕ → Type 0 where
  term-node : {scope n : ℕ} → n < 8 → TooDeep (term 0 scope) n
  process-node : {scope n : ℕ} → n < 8 → TooDeep (process 0 scope) n
  formula-node : {steps scope n : ℕ} → n < 6 → TooDeep (formula 0 steps scope) n
  variable : {left scope n : ℕ} {k : ProcessKind} → get_elem? process_kinds n ≡ some k → Binder k → 12 ≤ scope → TooDeep (process (suc left) scope) n
  step : {left scope n : ℕ} {k : FormulaKind} → get_elem? formula_kinds n ≡ some k → StepKind k → TooDeep (formula (suc left) 0 scope) n

-- The refusals, by number and place. No bytes meet 5 (`NeverNameRange`).
pub data Refusal (s : List ℕ) (root : Field) : (number place : ℕ) → Type 0 where
  slice_too_long : 4096 < length s → Refusal s root 1 4096
  ended_early : {p : ℕ} {f : Field} {fs : List Field} → Due s root p (f ∷ fs) → EndsEarly (drop p s) → Refusal s root 2 (length s)
  bad_form : {p : ℕ} {f : Field} {fs : List Field} → Due s root p (f ∷ fs) → Malformed (drop p s) → Refusal s root 3 p
  unlisted_kind : {p k e : ℕ} {f : Field} {fs : List Field} → Due s root p (f ∷ fs) → number s p ≡ found k e → Unlisted f k → Refusal s root 4 p
  name_over : {p n e : ℕ} {fs : List Field} → Due s root p (name ∷ fs) → number s p ≡ found n e → largest_name < n → Refusal s root 5 p
  out_of_scope : {p k e scope : ℕ} {fs : List Field} → Due s root p (index scope ∷ fs) → number s p ≡ found k e → scope ≤ k → Refusal s root 6 p
  too_deep : {p k e : ℕ} {f : Field} {fs : List Field} → Due s root p (f ∷ fs) → number s p ≡ found k e → TooDeep f k → Refusal s root 7 p
  left_over : {p : ℕ} → Due s root p [] → p < length s → Refusal s root 8 p
