-- Every work byte after a call ("Turned back for the input", "Turned back for the state").
use mathlib.Core.Path.{◌≡◌, refl}
use mathlib.Core.Logic.{◌⊎◌, inl, inr, ⊎_elim}
use mathlib.Core.Bool.{Bool, true, false, ◌||◌}
use mathlib.Core.List.{List, [], ◌∷◌, ◌++◌}
use mathlib.Core.Option.{some}
use Prim.Native.Nat.{ℕ, zero, suc, ◌+◌, ◌≤◌, ◌<◌}
use native.Mathlib.Omega.{arith}
use lib.Dec.{ltb}
use lib.ListN.{length, get_elem?, drop, replicate, length-append, length-replicate, length-drop}
use Rattle.meaning.specs.Bytes.Process.{Process}
use Rattle.meaning.specs.Bytes.Formula.{Formula}
use Rattle.meaning.specs.Judging.{judge_model}
use Rattle.meaning.specs.Verdict.{Input, bad, good, work_bytes, ranked, judged, verdict_on, verdict, work_on, work_after}
use Rattle.meaning.specs.Theorems.{Cleared, WorkBytesAfter}
use Rattle.meaning.specs.Verdict.Answered.{Sorted, formed}
use Rattle.meaning.proofs.Verdict.Sorting.{sorted, input_refused_by}

-- Of what is judged, the result is 0 or at least 10.
ranked_result : (spent limited f s : Bool) (count budget : ℕ)
    → ((ranked spent limited f s count budget).result ≡ 0) ⊎ (10 ≤ (ranked spent limited f s count budget).result)
ranked_result true limited f s count budget = inr (omega arith)
ranked_result false true f s count budget = inr (omega arith)
ranked_result false false false s count budget = inr (omega arith)
ranked_result false false true true count budget = inr (omega arith)
ranked_result false false true false count budget = inl refl

pub judged_result : (P Q : Process) (F : Formula) (budget : ℕ) → ((judged P Q F budget).result ≡ 0) ⊎ (10 ≤ (judged P Q F budget).result)
unfolding judged
judged_result P Q F budget =
    let j = judge_model F P in
    let k = judge_model F Q in
    let count = j.count + k.count in
    ranked_result (ltb budget count) (j.limited || k.limited) j.truth k.truth count budget

-- The first n elements replaced by 0, element by element.
cleared_length : (n : ℕ) (work : List ℕ) → n ≤ length work → length (replicate n 0 ++ drop n work) ≡ length work
cleared_length n work long = omega (arith, length-append (replicate n 0) (drop n work), length-replicate {A = ℕ} n 0, length-drop n work)

cleared_below : (n i : ℕ) (rest : List ℕ) → i < n → get_elem? (replicate n 0 ++ rest) i ≡ some 0
cleared_below zero i rest h = absurd (omega arith)
cleared_below (suc n) zero rest h = refl
cleared_below (suc n) (suc i) rest h = cleared_below n i rest (omega arith)

cleared_above : (n i : ℕ) (work : List ℕ) → n ≤ length work → n ≤ i
    → get_elem? (replicate n 0 ++ drop n work) i ≡ get_elem? work i
cleared_above zero i work long h = refl
cleared_above (suc n) i [] long h = absurd (omega arith)
cleared_above (suc n) zero (b ∷ work) long h = absurd (omega arith)
cleared_above (suc n) (suc i) (b ∷ work) long h = cleared_above n i work (omega arith) (omega arith)

cleared : (work : List ℕ) → work_bytes ≤ length work → Cleared work (replicate work_bytes 0 ++ drop work_bytes work)
cleared work long =
    record {
      as_long = cleared_length work_bytes work long;
      cleared = λ i h. cleared_below work_bytes i (drop work_bytes work) h;
      unchanged = λ i h. cleared_above work_bytes i work long h;
    }

-- On an input, however it was sorted.
work-on : {s₁ s₂ s₃ : List ℕ} (budget : ℕ) (work : List ℕ) {i : Input} → Sorted s₁ s₂ s₃ (length work) i
    → ((1 ≤ (verdict_on i budget).result) × ((verdict_on i budget).result ≤ 9) → work_on i work ≡ work)
    × (((verdict_on i budget).result ≡ 0) ⊎ (10 ≤ (verdict_on i budget).result) → Cleared work (work_on i work))
unfolding verdict_on work_on
work-on budget work {i = bad n slice place} i =
    let b = input_refused_by i in
    (λ h. refl, elim [ inl h ↦ absurd (omega arith) | inr h ↦ absurd (omega arith) ])
work-on budget work {i = good P Q F} (formed f) = (
  λ h. ⊎_elim (λ z. absurd (omega arith)) (λ z. absurd (omega arith)) (judged_result P Q F budget),
  λ _. cleared work f.long_enough,
)

pub work_bytes_after : WorkBytesAfter
unfolding verdict work_after
work_bytes_after first second formula work budget b₁ b₂ b₃ = work-on budget work (sorted first second formula (length work) b₁ b₂ b₃)
