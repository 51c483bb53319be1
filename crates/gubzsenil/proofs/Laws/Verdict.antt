-- A call keeps its promise: where the input is turned back, and where it is judged ("Turned back for the input"; "Turned back for the
-- state").
use Rattle.std.specs.Prelude.{Ok, Err}
use mathlib.Core.Path.{◌≡◌, refl, sym, ap, ◌∙◌}
use mathlib.Core.Option.{none, some}
use mathlib.Core.List.{List, ◌++◌}
use Prim.Native.Nat.{ℕ, ◌≤◌}
use native.Mathlib.Omega.{arith}
use lib.Dec.{T}
use lib.ListN.{length, get_or, take, drop, replicate}
use lib.Seq.{length-take-le}
use mir.Syntax.{w8}
use mir.Val.{Fits}
use Rattle.meaning.specs.Bytes.Process.{Process}
use Rattle.meaning.specs.Bytes.Formula.{Formula}
use Rattle.meaning.specs.Bytes.WellFormed.{Bytes}
use Rattle.meaning.specs.Steps.State.{start}
use Rattle.meaning.specs.Verdict.{Input as Trees, good, bad, work_bytes, input, verdict_on, verdict, work_on, work_after}
use Rattle.meaning.specs.Verdict.Answered.{Formed, Sorted, formed}
use Rattle.meaning.proofs.Test.{is_false}
use Rattle.meaning.proofs.Verdict.NameRange.{never_answered_name_range}
use Rattle.meaning.proofs.Verdict.Sorting.{sorted, sorted_once}
use Rattle.decode_number.proofs.Theorems.{never}
use Rattle.decode_slice.proofs.Theorems.{bytes_of}
use Rattle.verdict_input.specs.declared.answer.Answer.{Answer}
use Rattle.verdict_input.specs.Answer.{numbers}
use Rattle.verdict_input.specs.Input.{Input, refusal, refusal_of}
use Rattle.verdict_state.specs.Models.{JudgesBoth}
use Rattle.gubzsenil.specs.Verdict.{Promise}
use Rattle.gubzsenil.proofs.Theorems.{accepted_by_numbers, acceptable_excludes}

-- The first bytes, lent and cleared.
lent : (n : ℕ) (work : List ℕ) {part : List ℕ} → n ≤ length work → part ≡ replicate (length (take n work)) 0
    → part ++ drop n work ≡ replicate n 0 ++ drop n work
lent n work h e = rw (e, length-take-le n work h)

pub lent_long : (n : ℕ) (work : List ℕ) → n ≤ length work → n ≤ length (take n work)
lent_long n work h = omega (arith, length-take-le n work h)

-- All three slices hold bytes.
pub record Slices (s₁ s₂ s₃ : List ℕ) : Type 0 where
  pub first : Bytes s₁
  pub second : Bytes s₂
  pub third : Bytes s₃

pub slices_of : (s₁ s₂ s₃ : List ℕ) → ((i : ℕ) → Fits w8 (get_or s₁ i 0)) → ((i : ℕ) → Fits w8 (get_or s₂ i 0))
    → ((i : ℕ) → Fits w8 (get_or s₃ i 0)) → Slices s₁ s₂ s₃
slices_of s₁ s₂ s₃ h₁ h₂ h₃ = record { first = bytes_of s₁ h₁; second = bytes_of s₂ h₂; third = bytes_of s₃ h₃ }

-- Where no slice is refused, there are trees.
record Well (s₁ s₂ s₃ : List ℕ) (work : ℕ) : Type 0 where
  pub P : Process
  pub Q : Process
  pub F : Formula
  pub formed : Formed s₁ s₂ s₃ work P Q F

is_well : {s₁ s₂ s₃ : List ℕ} {work : ℕ} {i : Trees} → Sorted s₁ s₂ s₃ work i → refusal_of i ≡ none → Well s₁ s₂ s₃ work
unfolding refusal_of
is_well {i = bad result slice place} i f = never (cc)
is_well {i = good P Q F} (formed f) g = record { P = P; Q = Q; F = F; formed = f }

module _ (s₁ s₂ s₃ : List ℕ) (work : ℕ) (slices : Slices s₁ s₂ s₃) (read : Input)
    (e : refusal read ≡ refusal_of (input s₁ s₂ s₃ work)) {u : Unit {0}} (f : read ≡ Ok u) where
  well : Well s₁ s₂ s₃ work
  well = is_well (sorted s₁ s₂ s₃ work slices.first slices.second slices.third) (sym e ∙ ap refusal f)

  pub first_short : length s₁ ≤ 4096
  first_short = well.formed.first.short

  pub second_short : length s₂ ≤ 4096
  second_short = well.formed.second.short

  pub formula_short : length s₃ ≤ 4096
  formula_short = well.formed.third.short

  pub work_long : 65536 ≤ work
  work_long = well.formed.long_enough

module _ (s₁ s₂ s₃ work : List ℕ) (budget : ℕ) (slices : Slices s₁ s₂ s₃) where
  promised : {r : Answer} {after : List ℕ} (i : Trees) → input s₁ s₂ s₃ (length work) ≡ i → numbers r ≡ verdict_on i budget
      → after ≡ work_on i work → Promise s₁ s₂ s₃ work budget r after
  unfolding verdict work_after
  promised {r} {after} i e f g =
      let same : numbers r ≡ verdict s₁ s₂ s₃ (length work) budget = f ∙ ap (λ x. verdict_on x budget) (sym e) in
      let never-five = never_answered_name_range s₁ s₂ s₃ (length work) budget slices.first slices.second slices.third in
      let accepts = accepted_by_numbers s₁ s₂ s₃ (length work) budget slices.first slices.second slices.third r same in
      record {
        answer = same;
        never-name-range = λ five. never-five (sym (ap (λ a. a.result) same) ∙ five);
        bytes = g ∙ ap (λ x. work_on x work) (sym e);
        excludes = λ zero P Q p q R B. is_false (R (start P) (start Q)) (acceptable_excludes (accepts.0 zero) P Q p q (λ S U. T (R S U)) B);
        accepts = accepts;
      }

  refused_so : {r : Answer} (i : Trees) → input s₁ s₂ s₃ (length work) ≡ i → refusal_of i ≡ some (numbers r)
      → Promise s₁ s₂ s₃ work budget r work
  unfolding refusal_of verdict_on work_on
  refused_so (good P Q F) f g = never (cc)
  refused_so (bad result slice place) f g = promised (bad result slice place) f (cc) refl

  module _ (read : Input) (e : refusal read ≡ refusal_of (input s₁ s₂ s₃ (length work))) where
    pub turned-back : {r : Answer} → read ≡ Err r → Promise s₁ s₂ s₃ work budget r work
    turned-back f = refused_so (input s₁ s₂ s₃ (length work)) refl (sym e ∙ ap refusal f)

    -- The part that was lent comes back cleared.
    pub judged_so : {r : Answer} {part : List ℕ} {u : Unit {0}} → read ≡ Ok u → JudgesBoth s₁ s₂ s₃ budget r
        → part ≡ replicate (length (take 65536 work)) 0 → Promise s₁ s₂ s₃ work budget r (part ++ drop 65536 work)
    unfolding verdict_on work_on
    judged_so f h g =
        let w = well s₁ s₂ s₃ (length work) slices read e f in
        promised (good w.P w.Q w.F) (sorted_once s₁ s₂ s₃ (length work) (formed w.formed))
        (h.exact w.P w.Q w.F w.formed.first w.formed.second w.formed.third)
        (lent work_bytes work w.formed.long_enough g)

pub ruleset shorts = (first_short, second_short, formula_short, work_long, lent_long)

pub ruleset verdicts = (turned-back, judged_so)
