-- The verdict on a finding: four numbers, and the work bytes after ("Turned back for the input", "Turned back for the state").
pub mod Answered
use Rattle.std.specs.Prelude.{ℕ, ◌+◌, Bool, true, false, ◌||◌, List, ◌++◌, ltb, length, drop, replicate}
use Rattle.meaning.specs.Bytes.Process.{Process}
use Rattle.meaning.specs.Bytes.Formula.{Formula}
use Rattle.meaning.specs.Bytes.Number.{Read, found, refused}
use Rattle.meaning.specs.Bytes.Reading.{read_model, read_formula}
use Rattle.meaning.specs.Judging.{judge_model}

pub record Answer : Type 0 where
  pub result : ℕ
  pub slice : ℕ
  pub place : ℕ
  pub count : ℕ

-- The buffer's 65,536 bytes.
abbrev pub work_bytes : ℕ
work_bytes = 65536

-- Turned back for the state, or accepted.
abbrev pub answer : (result count : ℕ) → Answer
answer result count = record { result = result; slice = 0; place = 0; count = count }

-- In their order: the count is over the budget, some visit met a limit, false of the first model, true of both.
abbrev pub ranked : (spent limited first second : Bool) (count budget : ℕ) → Answer
ranked true limited first second count budget = answer 10 budget
ranked false true first second count budget = answer 11 count
ranked false false false second count budget = answer 12 count
ranked false false true true count budget = answer 13 count
ranked false false true false count budget = answer 0 count

unfoldable pub judged : Process → Process → Formula → (budget : ℕ) → Answer
judged P Q F budget =
    let j = judge_model F P in
    let k = judge_model F Q in
    let count = j.count + k.count in
    ranked (ltb budget count) (j.limited || k.limited) j.truth k.truth count budget

-- The trees that are to be judged, or the answer of the first test that turns the input back.
pub data Input : Type 0 where
  good : Process → Process → Formula → Input
  bad : (result slice place : ℕ) → Input

unfoldable pub with_formula : Process → Process → Read Formula → Input
with_formula P Q (found F end) = good P Q F
with_formula P Q (refused number place) = bad number 3 place

unfoldable pub with_second : Process → Read Process → List ℕ → Input
with_second P (found Q end) formula = with_formula P Q (read_formula formula)
with_second P (refused number place) formula = bad number 2 place

unfoldable pub with_first : Read Process → (second formula : List ℕ) → Input
with_first (found P end) second formula = with_second P (read_model second) formula
with_first (refused number place) second formula = bad number 1 place

unfoldable pub input : (first second formula : List ℕ) (work : ℕ) → Input
input first second formula work =
    elim (ltb work work_bytes) [ true ↦ bad 9 0 0 | false ↦ with_first (read_model first) second formula ]

unfoldable pub verdict_on : Input → (budget : ℕ) → Answer
verdict_on (good P Q F) budget = judged P Q F budget
verdict_on (bad result slice place) budget = record { result = result; slice = slice; place = place; count = 0 }

-- The four numbers, for three slices, the length of the work buffer, and the budget.
unfoldable pub verdict : (first second formula : List ℕ) (work budget : ℕ) → Answer
verdict first second formula work budget = verdict_on (input first second formula work) budget

-- The work bytes after, for the work bytes before: untouched where the input is turned back, else with the first 65,536 cleared.
unfoldable pub work_on : Input → List ℕ → List ℕ
work_on (good P Q F) work = replicate work_bytes 0 ++ drop work_bytes work
work_on (bad result slice place) work = work

unfoldable pub work_after : (first second formula : List ℕ) → List ℕ → List ℕ
work_after first second formula work = work_on (input first second formula (length work)) work
