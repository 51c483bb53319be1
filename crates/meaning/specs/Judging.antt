-- Judging a formula at a state in one pass: its truth, its count, and whether a visit met a limit ("Judging and its count").
pub mod Limits
pub mod Visits
use Rattle.std.specs.Prelude.{ℕ, ◌+◌, Bool, true, false, ◌&&◌, ◌||◌, List, [], ◌∷◌, map}
use Rattle.std.proofs.Math.Bool
use Rattle.meaning.specs.Messages.Normal
use Rattle.meaning.specs.Bytes.Process.{Process}
use Rattle.meaning.specs.Bytes.Formula.{Formula}
use Rattle.meaning.specs.Steps.State.{written}
use Rattle.meaning.specs.Judging.Visits.{Arrival, start_arrival, arrivals, at, meets}

-- Truth, the number of visits, and whether one of them met a limit.
pub record Judgement : Type 0 where
  pub truth : Bool
  pub count : ℕ
  pub limited : Bool

-- A visit that meets a limit ends there, with a count of 1. It is given the truth false, on which no answer rests.
abbrev pub visit : Bool → (Unit {0} → Judgement) → Judgement
visit true further = record { truth = false; count = 1; limited = true }
visit false further = further tt

abbrev pub negated : Judgement → Judgement
negated j = record { truth = Bool.not j.truth; count = 1 + j.count; limited = j.limited }

abbrev pub both : Judgement → Judgement → Judgement
both j k = record { truth = j.truth && k.truth; count = 1 + j.count + k.count; limited = j.limited || k.limited }

unfoldable pub some_of : List Judgement → Judgement
some_of [] = record { truth = false; count = 1; limited = false }
some_of (j ∷ js) =
    let k = some_of js in
    record { truth = j.truth || k.truth; count = j.count + k.count; limited = j.limited || k.limited }

-- Nothing is skipped: every part is judged, and at every state that a step leads to.
unfoldable pub judge : Formula → Arrival → Judgement
judge (Formula.equal M N) A =
    visit (meets (at (Formula.equal M N) A))
    (λ _. record { truth = Normal.equal (written A.state.aliases M) (written A.state.aliases N); count = 1; limited = false })
judge (Formula.not F) A = visit (meets (at (Formula.not F) A)) (λ _. negated (judge F A))
judge (Formula.and F G) A = visit (meets (at (Formula.and F G) A)) (λ _. both (judge F A) (judge G A))
judge (Formula.step a F) A = visit (meets (at (Formula.step a F) A)) (λ _. some_of (map (judge F) (arrivals A.state a)))

unfoldable pub judge_model : Formula → Process → Judgement
judge_model F P = judge F (start_arrival P)
