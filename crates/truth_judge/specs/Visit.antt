-- A visit to a state by a formula, kind by kind ("Judging and its count"). Whatever formula stands there and whatever state: the answer is
-- what judging comes to.
use Rattle.std.specs.Prelude.{◌≡◌, ◌&&◌, ◌||◌, Option, List, ℕ, ◌+◌, length}
use Rattle.meaning.specs.Bytes.Formula.{Formula}
use Rattle.meaning.specs.Judging.{Judgement, negated, both, judge}
use Rattle.meaning.specs.Judging.Visits.{Arrival}
use Rattle.buffer.specs.Buffer.{Within}
use Rattle.message_term.specs.Work.{TermAt}
use Rattle.meaning.specs.Messages.Term.{Term}
use Rattle.state_record.specs.declared.state.State as code
use Rattle.truth_label.specs.Place.{FormulaAt}
use Rattle.truth_body.specs.Judged.{judged_of}
use Rattle.truth_body.specs.Reached.{JudgingRoom, Here, Reached, Unchanged}
use Rattle.truth_body.specs.declared.judged.Judged.{Judged}

-- A formula at a position, judged at what was formed.
pub record Judges (s f : List ℕ) (at depth : ℕ) (formed : Option code.State) (m out : List ℕ) (left : ℕ) (r : Option Judged) (after : List ℕ) : Type 0 where
  pub exact : (F : Formula) (A : Arrival) {steps next : ℕ} → FormulaAt f at depth steps (length A.state.aliases) F next
      → Reached s out formed A steps → JudgingRoom s m out → (r ≡ judged_of left (judge F A)) × Unchanged formed out after

-- What a visit comes to, this visit being taken off the budget already.
pub record Comes (st : code.State) (out : List ℕ) (left : ℕ) (j : Judgement) (r : Option Judged) (after : List ℕ) : Type 0 where
  pub answer : r ≡ judged_of (left + 1) j
  pub kept : Within st.end (length out) out after

-- A formula at a position, judged at a state within its limits.
pub record Visits (s f : List ℕ) (at depth : ℕ) (st : code.State) (m out : List ℕ) (left : ℕ) (r : Option Judged) (after : List ℕ) : Type 0 where
  pub exact : (F : Formula) (A : Arrival) {steps next : ℕ} → FormulaAt f at depth steps (length A.state.aliases) F next
      → Here s out st A steps → JudgingRoom s m out → Comes st out left (judge F A) r after

-- `equal`, of two recipes.
pub record Equates (f : List ℕ) (at : ℕ) (st : code.State) (out : List ℕ) (left : ℕ) (r : Option Judged) (after : List ℕ) : Type 0 where
  pub exact : (s m : List ℕ) (M N : Term) (A : Arrival) {steps mid next : ℕ} → TermAt f at 8 (length A.state.aliases) M mid
      → TermAt f mid 8 (length A.state.aliases) N next → Here s out st A steps → JudgingRoom s m out
      → Comes st out left (judge (Formula.equal M N) A) r after

-- `not`, of one formula.
pub record Negates (s f : List ℕ) (at depth : ℕ) (st : code.State) (m out : List ℕ) (left : ℕ) (r : Option Judged) (after : List ℕ) : Type 0 where
  pub exact : (F : Formula) (A : Arrival) {steps next : ℕ} → FormulaAt f at depth steps (length A.state.aliases) F next
      → Here s out st A steps → JudgingRoom s m out → Comes st out left (negated (judge F A)) r after

-- `and`, of two formulas; and the second of them, with what the first came to.
pub record Conjoins (s f : List ℕ) (at depth : ℕ) (st : code.State) (m out : List ℕ) (left : ℕ) (r : Option Judged) (after : List ℕ) : Type 0 where
  pub exact : (F G : Formula) (A : Arrival) {steps mid next : ℕ} → FormulaAt f at depth steps (length A.state.aliases) F mid
      → FormulaAt f mid depth steps (length A.state.aliases) G next → Here s out st A steps → JudgingRoom s m out
      → Comes st out left (both (judge F A) (judge G A)) r after

-- What both come to, if this is what the first came to and that is the second.
abbrev pub both_of : Judged → Judgement → Judgement
both_of sum k = record { truth = sum.truth && k.truth; count = k.count; limited = sum.limited || k.limited }

pub record Seconds (s f : List ℕ) (at depth : ℕ) (st : code.State) (m out : List ℕ) (sum : Judged) (r : Option Judged) (after : List ℕ) : Type 0 where
  pub exact : (G : Formula) (A : Arrival) {steps next : ℕ} → FormulaAt f at depth steps (length A.state.aliases) G next
      → Here s out st A steps → JudgingRoom s m out
      → (r ≡ judged_of sum.left (both_of sum (judge G A))) × Within st.end (length out) out after
