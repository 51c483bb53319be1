-- A formula judged at the start state of a model ("Judging and its count").
use Rattle.std.specs.Prelude.{Option}
use mathlib.Core.List.{List}
use Prim.Native.Nat.{ℕ, ◌≤◌}
use native.Mathlib.Omega.{arith}
use lib.ListN.{length}
use Rattle.meaning.specs.Steps.State.{start}
use Rattle.meaning.specs.Judging.{judge_model}
use Rattle.meaning.specs.Judging.Visits.{start_arrival}
use Rattle.buffer.specs.Buffer.{Within}
use Rattle.index_process.specs.Index.{Builds, ShortModel}
use Rattle.state_record.specs.declared.state.State as code
use Rattle.state_start.specs.Form.{Starts}
use Rattle.state_start.proofs.Laws.Form.{model_in}
use Rattle.step_transition.proofs.Laws.Start.{start_within_limits}
use Rattle.truth_body.specs.Reached.{JudgingRoom}
use Rattle.truth_judge.specs.Visit.{Judges}
use Rattle.verdict_state.specs.Model.{JudgesModel, JudgesIndexed}
use Rattle.truth_body.specs.declared.judged.Judged.{Judged}
use Rattle.truth_body.proofs.Laws.Reached.{reached}

-- The start state stands in front, and 16 step formulas may follow.
pub judges_indexed : {s f m m₁ out out₁ after : List ℕ} {low low₁ high high₁ budget : ℕ} {formed : Option code.State} {r : Option Judged}
    → Starts s 0 formed out₁ → Within low high m m₁ → Within low₁ high₁ out out₁ → ShortModel s → 10750 ≤ length m → 65536 ≤ length out
    → Judges s f 0 48 formed m₁ out₁ budget r after → JudgesIndexed s f budget r
unfolding judge_model start
judges_indexed {s = s} {m₁ = m₁} {out₁ = out₁} starts wm wo short wide long judges = record {
  exact = λ P F model formula.
      let (there, above) = reached (starts.exact P model) (λ free st at. start_within_limits s out₁ P st free at) 16 (omega arith) (omega arith) in
      let room : JudgingRoom s m₁ out₁ = record { short = short; wide = omega (arith, wm.long); long = omega (arith, wo.long) } in
      (judges.exact F (start_arrival P) formula.at there room).0;
}

-- A model that was put into a slice with its index is the one that is judged.
pub judges_model : {model s f : List ℕ} {budget : ℕ} {r : Option Judged} → Builds model s → JudgesIndexed s f budget r → JudgesModel model f budget r
judges_model b j = record { exact = λ P F model formula. j.exact P F (model_in P b model) formula }
