-- What is known of the body of a step formula: how it is memoised, and taken off a budget ("Judging and its count").
use Rattle.std.specs.Prelude.{None, Option, Some}
use mathlib.Core.Path.{◌≡◌, refl, sym, ◌∙◌}
use mathlib.Core.Bool.{Bool, true, false}
use mathlib.Core.List.{List, [], ◌∷◌, ◌++◌}
use Prim.Native.Nat.{ℕ, ◌-◌, ◌≤◌, ◌<◌}
use native.Mathlib.Omega.{arith}
use lib.ListN.{length}
use Rattle.meaning.specs.Bytes.Formula.{Label, Formula}
use Rattle.meaning.specs.Bytes.Nesting.{step_depth}
use Rattle.meaning.specs.Bytes.Scope.{binds_label}
use Rattle.meaning.specs.Steps.State.{Bound}
use Rattle.meaning.specs.Judging.{judge}
use Rattle.meaning.specs.Judging.Visits.{Arrival}
use Rattle.state_record.specs.declared.state.State as code
use Rattle.state_layout.specs.Layout.{over_arrival}
use Rattle.truth_label.specs.Head.{label_of_step}
use Rattle.truth_body.specs.Judged.{done, judged_of}
use Rattle.truth_body.specs.Reached.{Reached}
use Rattle.truth_body.specs.Memo.{MemoHolds, alike_if, beginning, first_of, memoised, Applies, Charges}
use Rattle.truth_body.specs.declared.memo.Memo.{Memo}
use Rattle.truth_body.specs.declared.memo.Memo.TheVariants.{Open, Alike, Each}
use Rattle.truth_body.proofs.Laws.Budget.{spent_as, done_as, told_done, told_judgement}
use Rattle.truth_body.proofs.Laws.Stepless.{stepless_same}

-- Nothing is known before the first step, or that a body without steps comes to the same wherever no alias is added.
module _ {F : Formula} {a : Label} {ρ : Bound} where
  nothing : MemoHolds Open F a ρ
  nothing = record {
    led = λ A new long e. record { same = λ t l n d. absurd (let z : ◌≡◌ {A = ℕ} 0 1 = cc in omega arith) };
    alike = λ d. absurd (let z : ◌≡◌ {A = ℕ} 0 1 = cc in omega arith);
  }

  alone : binds_label a ≡ 0 → (stepless : Bool) → (stepless ≡ true → step_depth F ≡ 0) → MemoHolds (alike_if stepless) F a ρ
  alone none false plain = nothing
  alone none true plain = record {
    led = λ A new long e. record { same = λ t l n d. absurd (let z : ◌≡◌ {A = ℕ} 0 1 = cc in omega arith) };
    alike = λ d. (plain refl, none);
  }

pub begins : (a : Label) {F : Formula} {ρ : Bound} (stepless : Bool) → (stepless ≡ true → step_depth F ≡ 0) → MemoHolds (beginning (label_of_step a) stepless) F a ρ
begins (Label.output C) stepless plain = nothing
begins (Label.input C M) stepless plain = alone refl stepless plain
begins Label.silent stepless plain = alone refl stepless plain

-- What is known at what was formed.
module _ {memo : Memo} {formed : Option code.State} where
  pub applies_all : {st : code.State} → formed ≡ Some st → Applies memo formed memo
  applies_all {st} e = record { there = λ t l n d. (d, (st, e)) }

  pub applies_none : Applies memo formed Open
  applies_none = record { there = λ t l n d. absurd (let z : ◌≡◌ {A = ℕ} 0 1 = cc in omega arith) }

pub ruleset applyings = (applies_all, applies_none)

-- It is taken off a budget.
module _ {t l : Bool} {n left : ℕ} where
  pub charges_none : n ≡ 0 → Charges t l n left None
  charges_none e = record { exact = λ some. absurd (omega arith) }

  pub charges_over : left < n → Charges t l n left None
  charges_over h = record { exact = λ some. spent_as left (record { truth = t; count = n; limited = l }) h }

  pub charges_done : n ≤ left → Charges t l n left (done t l (left - n))
  charges_done h = record { exact = λ some. done_as left (record { truth = t; count = n; limited = l }) (omega arith) refl refl }

pub ruleset chargings = (charges_none, charges_over, charges_done)

-- What a body without steps has come to at a state is what it comes to at every other one with the same aliases.
module _ (F : Formula) (a : Label) (ρ : Bound) (left : ℕ) {n : ℕ} {t l : Bool} (B : Arrival) (added : Bound)
    (long : length added ≡ binds_label a) (aliases : B.state.aliases ≡ ρ ++ added) (judged : done t l n ≡ judged_of left (judge F B)) where
  same_aliases : (new : Bound) → binds_label a ≡ 0 → length new ≡ binds_label a → ρ ++ new ≡ B.state.aliases
  same_aliases new none e = sym (aliases ∙ of added new (long ∙ none) (e ∙ none))
    where
      of : (xs ys : Bound) → length xs ≡ 0 → length ys ≡ 0 → ρ ++ xs ≡ ρ ++ ys
      of [] [] p q = refl
      of [] (y ∷ ys) p q = absurd (omega arith)
      of (x ∷ xs) ys p q = absurd (omega arith)

  each : step_depth F ≡ 0 → binds_label a ≡ 0 → over_arrival B ≡ false → MemoHolds (Each t l (left - n)) F a ρ
  each z none free = record {
    led = λ A new size e. record {
      same = λ t' l' n' d within.
          let told = told_done left (judge F B) judged refl in
          let truth : t ≡ t' = cc in
          let limited : l ≡ l' = cc in
          let visits : left - n ≡ n' = cc in
          let is : judge F A ≡ record { truth = t; count = left - n; limited = l } =
          stepless_same F A B z within free (e ∙ same_aliases new none size) ∙ told_judgement (judge F B) told in
          rw (truth, visits, limited) at is;
    };
    alike = λ d. absurd (let z : ◌≡◌ {A = ℕ} 0 1 = cc in omega arith);
  }

  pub memoises : (s out : List ℕ) (steps : ℕ) (memo : Memo) (formed : Option code.State) → Reached s out formed B steps → MemoHolds memo F a ρ
      → MemoHolds (memoised memo formed t l (left - n)) F a ρ
  memoises s out steps Open formed reached sound = sound
  memoises s out steps (Each t' l' n') formed reached sound = sound
  memoises s out steps Alike None reached sound = sound
  memoises s out steps Alike (Some st) reached sound = let (z, none) = sound.alike refl in each z none reached.free

-- What is known after a judgement, by what was known and what was formed.
pub memo_first : {formed : Option code.State} {st : code.State} (t l : Bool) (n : ℕ) → formed ≡ Some st → Each t l n ≡ first_of formed t l n
memo_first t l n e = rw e

pub memo_alike : {memo k : Memo} (formed : Option code.State) (t l : Bool) (n : ℕ) → memo ≡ Alike → k ≡ first_of formed t l n → k ≡ memoised memo formed t l n
memo_alike formed t l n e d = rw e d

pub ruleset memoisings = (memo_first, memo_alike)
