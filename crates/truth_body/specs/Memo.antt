-- What a body without steps comes to wherever a step leads ("Judging and its count").
use Rattle.std.specs.Prelude.{◌≡◌, Bool, true, false, Option, ◌++◌, ℕ, ◌≤◌, length, Some, None}
use Rattle.meaning.specs.Bytes.Formula.{Label, Formula}
use Rattle.meaning.specs.Bytes.Nesting.{step_depth}
use Rattle.meaning.specs.Bytes.Scope.{binds_label}
use Rattle.meaning.specs.Steps.State.{Bound}
use Rattle.meaning.specs.Judging.{judge}
use Rattle.meaning.specs.Judging.Visits.{Arrival}
use Rattle.state_record.specs.declared.state.State as code
use Rattle.state_layout.specs.Layout.{over_arrival}
use Rattle.step_label.specs.declared.step.Label as step_label
use Rattle.step_label.specs.declared.step.Label.TheVariants.{Output, Input, Silent}
use Rattle.truth_body.specs.Judged.{judged_of}
use Rattle.truth_body.specs.declared.judged.Judged.{Judged}
use Rattle.truth_body.specs.declared.memo.Memo.{Memo}
use Rattle.truth_body.specs.declared.memo.Memo.TheVariants.{Open, Alike, Each}

-- What is known of a formula is what it comes to at a state, if that is within its limits; and so at whatever state a step of a label leads to, by
-- the aliases before it. Or it is known that this is the same at all of them.
pub record MemoAt (memo : Memo) (F : Formula) (A : Arrival) : Type 0 where
  pub same : (t l : Bool) (n : ℕ) → memo ≡ Each t l n → over_arrival A ≡ false → judge F A ≡ record { truth = t; count = n; limited = l }

pub record MemoHolds (memo : Memo) (F : Formula) (a : Label) (ρ : Bound) : Type 0 where
  pub led : (A : Arrival) (new : Bound) → length new ≡ binds_label a → A.state.aliases ≡ ρ ++ new → MemoAt memo F A
  pub alike : memo ≡ Alike → (step_depth F ≡ 0) × (binds_label a ≡ 0)

-- What is known before the first step of a label.
abbrev pub alike_if : (stepless : Bool) → Memo
alike_if true = Alike
alike_if false = Open

abbrev pub beginning : step_label.Label → (stepless : Bool) → Memo
beginning Output stepless = Open
beginning Input stepless = alike_if stepless
beginning Silent stepless = alike_if stepless

-- What is known once a body has come to something at what was formed.
abbrev pub first_of : Option code.State → (t l : Bool) → (n : ℕ) → Memo
first_of (Some st) t l n = Each t l n
first_of None t l n = Alike

abbrev pub memoised : Memo → Option code.State → (t l : Bool) → (n : ℕ) → Memo
memoised Open formed t l n = Open
memoised Alike formed t l n = first_of formed t l n
memoised (Each t' l' n') formed t l n = Each t' l' n'

-- What applies to what was formed is known, and a state was formed.
pub record Applies (memo : Memo) (formed : Option code.State) (r : Memo) : Type 0 where
  pub there : (t l : Bool) (n : ℕ) → r ≡ Each t l n → (memo ≡ Each t l n) × ((st : code.State) × (formed ≡ Some st))

-- A judgement with its visits taken off a budget.
pub record Charges (t l : Bool) (n left : ℕ) (r : Option Judged) : Type 0 where
  pub exact : 1 ≤ n → r ≡ judged_of left (record { truth = t; count = n; limited = l })
