-- A visit by a step formula: its body is judged at each state that a step of its label leads to ("Judging and its count").
use Rattle.std.specs.Prelude.{◌≡◌, Bool, true, false, ◌||◌, Option, Some, None, List, map, ℕ, ◌+◌, ◌-◌, ◌<◌, ◌≤◌, length}
use Rattle.std.specs.declared.ops.ControlFlow.{ControlFlow}
use Rattle.std.specs.declared.ops.ControlFlow.TheVariants.{Continue, Break}
use Rattle.meaning.specs.Messages.Term.{Message}
use Rattle.meaning.specs.Bytes.Formula.{Label, Formula}
use Rattle.meaning.specs.Bytes.Nesting.{step_depth}
use Rattle.meaning.specs.Bytes.Scope.{binds_label}
use Rattle.meaning.specs.Steps.State.{State}
use Rattle.meaning.specs.Judging.{Judgement, some_of, judge}
use Rattle.meaning.specs.Judging.Limits.{over_label}
use Rattle.meaning.specs.Judging.Visits.{Arrival}
use Rattle.buffer.specs.Buffer.{Within}
use Rattle.state_record.specs.Record.{Placed}
use Rattle.state_record.specs.declared.state.State as code
use Rattle.state_layout.specs.Loaded.{IsRunOf}
use Rattle.step_transition.specs.Moves.{Move}
use Rattle.step_transition.specs.Outcome.{outcome, arrival_of}
use Rattle.step_transition.specs.Behind.{moves_of}
use Rattle.step_label.specs.declared.step.Step as step
use Rattle.step_label.specs.declared.step.Label as step_label
use Rattle.step_label.specs.declared.step.Label.TheVariants.{Input}
use Rattle.step_between.specs.Buffered.{Resuming}
use Rattle.truth_label.specs.Place.{kind_of, FormulaAt, LabelAt}
use Rattle.truth_label.specs.Head.{label_of_step, channel_of, taken_of}
use Rattle.truth_label.specs.declared.head.Head as head
use Rattle.truth_body.specs.Judged.{judged_of}
use Rattle.truth_body.specs.Reached.{JudgingRoom, Here, Reached, Unchanged}
use Rattle.truth_body.specs.Memo.{MemoAt, MemoHolds, memoised}
use Rattle.truth_judge.specs.Visit.{Comes}
use Rattle.truth_body.specs.declared.judged.Judged.{Judged}
use Rattle.truth_body.specs.declared.memo.Memo.{Memo}
use Rattle.truth_judge.specs.declared.turn.Turn.{Turn}

-- The step formula of a kind, whose fields stand at a position.
pub record Stepped (s f : List ℕ) (kind at depth : ℕ) (st : code.State) (m out : List ℕ) (left : ℕ) (r : Option Judged)
    (after : List ℕ) : Type 0 where
  pub exact : (a : Label) (F : Formula) (A : Arrival) {steps body next : ℕ} → kind ≡ kind_of a
      → LabelAt f at (length A.state.aliases) a body
      → FormulaAt f body depth steps (binds_label a + length A.state.aliases) F next → Here s out st A (steps + 1) → JudgingRoom s m out
      → Comes st out left (judge (Formula.step a F) A) r after

-- What those who judge the body of a step formula are given: the state, the body, and the worked messages of the label.
pub record Asked (s f : List ℕ) (body depth : ℕ) (st : code.State) (l : step_label.Label) (channel taken m out : List ℕ) : Type 0 where
  pub label : Label
  pub formula : Formula
  pub arrival : Arrival
  pub steps : ℕ
  pub next : ℕ
  pub same : l ≡ label_of_step label
  pub stands : FormulaAt f body depth steps (binds_label label + length arrival.state.aliases) formula next
  pub here : Here s out st arrival (steps + 1)
  pub room : JudgingRoom s m out
  pub small : over_label arrival.state.aliases label ≡ false
  pub channelled : IsRunOf channel (channel_of arrival.state.aliases label)
  pub taking : l ≡ Input → IsRunOf taken (taken_of arrival.state.aliases label)

-- What the body comes to at the states that moves lead to.
abbrev pub judgements : Formula → State → List Placed → Message → List Move → List Judgement
judgements F S ps y ws = map (λ w. judge F (arrival_of S (outcome ps S.next y w))) ws

module _ {s f : List ℕ} {body depth : ℕ} {st : code.State} {l : step_label.Label} {channel taken m out : List ℕ}
    (q : Asked s f body depth st l channel taken m out) where
  -- The moves of the label, and what the body comes to at some of them.
  abbrev pub moves_at : List Move
  moves_at =
      let S = q.arrival.state in
      moves_of l (channel_of S.aliases q.label) S.next q.here.within.at.placed

  abbrev pub judgements_at : List Move → List Judgement
  judgements_at ws =
      let S = q.arrival.state in
      judgements q.formula S q.here.within.at.placed (taken_of S.aliases q.label) ws

  -- What is known of the body.
  abbrev pub memo_holds_at : Memo → Type 0
  memo_holds_at memo = MemoHolds memo q.formula q.label q.arrival.state.aliases

-- What is still to come, with what has come so far.
abbrev pub some_with : Judged → Judgement → Judgement
some_with sum k = record { truth = sum.truth || k.truth; count = k.count; limited = sum.limited || k.limited }

unfoldable pub to_come : Judged → List Judgement → Option Judged
to_come sum js = judged_of (sum.left + 1) (some_with sum (some_of js))

-- A further step, behind which there are moves, with what it sends and on what at the fronts of two slices, what has come so far, and what is
-- known of the body.
pub record FurtherStep (l : step_label.Label) (start : ℕ) (ws : List Move) (judged : List Move → List Judgement) (holds : Memo → Type 0)
    (total : Option Judged) (buffered message : List ℕ) (v : step.Step) (sum : Judged) (memo : Memo) : Type 0 where
  pub label : v.label ≡ l
  pub others : List Move
  pub resuming : Resuming l start ws buffered message v others
  pub same : to_come sum (judged others) ≡ total
  pub holding : holds memo

-- One turn: the next step is taken, and the body judged where it leads.
pub record TurnTo (l : step_label.Label) (start : ℕ) (ws : List Move) (judged : List Move → List Judgement) (holds : Memo → Type 0)
    (total : Option Judged) (buffered message : List ℕ) (r : ControlFlow (Option Judged) Turn) : Type 0 where
  pub ends : (j : Option Judged) → r ≡ Break j → j ≡ total
  pub goes : (t : Turn) → r ≡ Continue t → FurtherStep l start ws judged holds total buffered message t.found t.sum t.memo

pub record Turns (stepless : Bool) (memo : Memo) (s f : List ℕ) (body depth : ℕ) (st : code.State) (from : step.Step)
    (channel taken m out buffered message : List ℕ) (sum : Judged) (r : ControlFlow (Option Judged) Turn)
    (after on said : List ℕ) : Type 0 where
  pub exact : (q : Asked s f body depth st from.label channel taken m out) → (stepless ≡ true → step_depth q.formula ≡ 0) → memo_holds_at q memo
      → {others : List Move} → 510 ≤ length buffered → 510 ≤ length message
      → Resuming from.label st.start (moves_at q) buffered message from others
      → TurnTo from.label st.start (moves_at q) (judgements_at q) (memo_holds_at q) (to_come sum (judgements_at q others)) on said r
      × Within st.end (length out) out after

-- A formula at a position, of which something may be known, at what was formed.
pub record JudgesBody (memo : Memo) (s f : List ℕ) (at depth : ℕ) (formed : Option code.State) (m out : List ℕ) (left : ℕ)
    (r : Option Judged) (after : List ℕ) : Type 0 where
  pub exact : (F : Formula) (A : Arrival) {steps next : ℕ} → FormulaAt f at depth steps (length A.state.aliases) F next
      → Reached s out formed A steps → JudgingRoom s m out → MemoAt memo F A → (r ≡ judged_of left (judge F A)) × Unchanged formed out after

-- The body judged at the state that a step leads to, and added to what has come so far.
abbrev pub turn_of : Memo → Option code.State → step.Step → Judged → Option Judged → ControlFlow (Option Judged) Turn
turn_of memo formed v sum (Some j) =
    let more : Judged = record { truth = sum.truth || j.truth; limited = sum.limited || j.limited; left = j.left } in
    Continue (record { found = v; sum = more; memo = memoised memo formed j.truth j.limited (sum.left - j.left) })
turn_of memo formed v sum None = Break None

pub record Counts (memo : Memo) (s f : List ℕ) (body depth : ℕ) (v : step.Step) (formed : Option code.State) (m out : List ℕ) (sum : Judged)
    (r : ControlFlow (Option Judged) Turn) (after : List ℕ) : Type 0 where
  pub judged : Option Judged
  pub judges : JudgesBody memo s f body depth formed m out sum.left judged after
  pub answer : r ≡ turn_of memo formed v sum judged

-- In any case a visit is taken off the budget where a further step was found, and nothing is added to it at the end.
pub record Falls (left : ℕ) (r : ControlFlow (Option Judged) Turn) : Type 0 where
  pub goes : (t : Turn) → r ≡ Continue t → t.sum.left < left
  pub ends : (j : Judged) → r ≡ Break (Some j) → j.left ≤ left

-- All turns, with what is known of the body before them; and all steps.
pub record AllTurns (stepless : Bool) (memo : Memo) (s f : List ℕ) (head : head.Head) (depth : ℕ) (st : code.State)
    (channel taken m out : List ℕ) (left : ℕ) (r : Option Judged) (after : List ℕ) : Type 0 where
  pub exact : (q : Asked s f head.body depth st head.label channel taken m out) → (stepless ≡ true → step_depth q.formula ≡ 0)
      → memo_holds_at q memo → Comes st out left (some_of (judgements_at q (moves_at q))) r after

pub record AllSteps (s f : List ℕ) (head : head.Head) (depth : ℕ) (st : code.State) (channel taken m out : List ℕ) (left : ℕ) (r : Option Judged)
    (after : List ℕ) : Type 0 where
  pub exact : (q : Asked s f head.body depth st head.label channel taken m out)
      → Comes st out left (some_of (judgements_at q (moves_at q))) r after
