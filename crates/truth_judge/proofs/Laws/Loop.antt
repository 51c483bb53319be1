-- All turns of a step formula ("Judging and its count").
use Rattle.std.specs.Prelude.{Option}
use Rattle.std.specs.declared.ops.ControlFlow.{ControlFlow}
use Rattle.std.specs.declared.ops.ControlFlow.TheVariants.{Continue, Break}
use mathlib.Core.Path.{◌≡◌, refl, sym, ap, subst, ◌∙◌}
use mathlib.Core.Bool.{Bool, true, false}
use mathlib.Core.List.{List}
use Prim.Native.Nat.{ℕ, ◌+◌, ◌≤◌, ◌<◌}
use native.Mathlib.Omega.{arith}
use lib.ListN.{length}
use Rattle.meaning.specs.Bytes.Nesting.{step_depth}
use Rattle.meaning.specs.Judging.{some_of}
use Rattle.buffer.specs.Buffer.{Within}
use Rattle.buffer.proofs.Laws.Buffer.{one_after, unchanged}
use Rattle.index_formula.specs.Index.{Stepless}
use Rattle.index_formula.proofs.Laws.Stepless.{stepless_depth}
use Rattle.state_record.specs.declared.state.State as code
use Rattle.step_transition.specs.Moves.{Move}
use Rattle.step_transition.specs.Behind.{before, all}
use Rattle.step_label.specs.declared.step.Step as step
use Rattle.step_label.specs.declared.step.Label as step_label
use Rattle.successor_rebuild.proofs.Laws.Formed.{within_kept}
use Rattle.step_between.specs.Buffered.{Resuming}
use Rattle.truth_label.specs.Head.{label_of_step}
use Rattle.truth_label.specs.declared.head.Head as head
use Rattle.truth_label.proofs.Laws.Formula.{in_formula}
use Rattle.truth_body.specs.Judged.{Less}
use Rattle.truth_body.specs.Memo.{beginning}
use Rattle.truth_judge.specs.Visit.{Comes}
use Rattle.truth_judge.specs.Steps.{Asked, moves_at, judgements_at, memo_holds_at, to_come, FurtherStep, TurnTo, Turns, Falls, AllTurns, AllSteps}
use Rattle.truth_body.specs.declared.judged.Judged.{Judged}
use Rattle.truth_body.specs.declared.memo.Memo.{Memo}
use Rattle.truth_judge.specs.declared.turn.Turn.{Turn}
use Rattle.truth_body.proofs.Laws.Memo.{begins}
use Rattle.truth_body.proofs.Laws.Reached.{here_kept, room_kept}

-- What is asked holds on where the state stays.
unfoldable pub asked_kept : {s f : List ℕ} {body depth high : ℕ} {st : code.State} {l : step_label.Label} {channel taken m m₁ out out₁ : List ℕ}
    → length m₁ ≡ length m → Within st.end high out out₁ → Asked s f body depth st l channel taken m out
    → Asked s f body depth st l channel taken m₁ out₁
asked_kept e w q = record {
  label = q.label;
  formula = q.formula;
  arrival = q.arrival;
  steps = q.steps;
  next = q.next;
  same = q.same;
  stands = q.stands;
  here = here_kept w q.here;
  room = room_kept e w.long q.room;
  small = q.small;
  channelled = q.channelled;
  taking = q.taking;
}

-- Nothing has come yet.
abbrev pub fresh : ℕ → Judged
fresh left = record { truth = false; limited = false; left = left }

-- Behind a step, with what has come so far and what is known of the body: what is still to come makes up the whole.
pub record Looping (stepless : Bool) (first : Memo) (s f : List ℕ) (body depth : ℕ) (st : code.State) (l : step_label.Label)
    (channel taken m₀ out₀ : List ℕ) (left : ℕ) (m out buffered message : List ℕ) (from : step.Step) (sum : Judged) (memo : Memo) : Type 0 where
  pub long : length m ≡ length m₀
  pub longer : length out ≡ length out₀
  pub holds : length buffered ≡ 510
  pub carries : length message ≡ 510
  pub less : sum.left ≤ left
  pub exact : (q : Asked s f body depth st l channel taken m₀ out₀) → (stepless ≡ true → step_depth q.formula ≡ 0) → memo_holds_at q first
      → FurtherStep l st.start (moves_at q) (judgements_at q) (memo_holds_at q) (to_come (fresh left) (judgements_at q (moves_at q))) buffered message from sum memo
      × Within st.end (length out₀) out₀ out

module _ {stepless : Bool} {first : Memo} {s f channel taken m₀ out₀ : List ℕ} {body depth left : ℕ} {st : code.State} where
  pub looping_starts : {l : step_label.Label} {from : step.Step} {buffered message : List ℕ} → from ≡ before l st.start
      → length buffered ≡ 510 → length message ≡ 510
      → Looping stepless first s f body depth st from.label channel taken m₀ out₀ left m₀ out₀ buffered message from (fresh left) first
  looping_starts {buffered = buffered} {message = message} e lh lm = record {
    long = refl;
    longer = refl;
    holds = lh;
    carries = lm;
    less = omega arith;
    exact = λ q plain sound. (
      record {
        label = refl;
        others = moves_at q;
        resuming =
            subst (λ (v : step.Step). Resuming v.label st.start (moves_at q) buffered message v (moves_at q)) (sym e)
            (record { behind = all; keeping = tt });
        same = refl;
        holding = sound;
      },
      unchanged,
    );
  }

  module _ {l : step_label.Label} {m out buffered message after on said : List ℕ} {from : step.Step} {sum : Judged} {memo : Memo}
      {r : ControlFlow (Option Judged) Turn}
      (looping : Looping stepless first s f body depth st l channel taken m₀ out₀ left m out buffered message from sum memo)
      (turns : Turns stepless memo s f body depth st from channel taken m out buffered message sum r after on said) where
    -- The turn, for the label of the formula.
    abbrev Turned : step_label.Label → Type 0
    Turned l = (q : Asked s f body depth st l channel taken m out) (others : List Move) → (stepless ≡ true → step_depth q.formula ≡ 0) → memo_holds_at q memo
        → Resuming l st.start (moves_at q) buffered message from others
        → TurnTo l st.start (moves_at q) (judgements_at q) (memo_holds_at q) (to_come sum (judgements_at q others)) on said r
        × Within st.end (length out) out after

    turned : (l : step_label.Label) → from.label ≡ l → Turned l
    turned l e =
        subst Turned e (λ q others plain sound.
        turns.exact q plain sound {others = others} (omega (arith, looping.holds)) (omega (arith, looping.carries)))

    after_turn : (q : Asked s f body depth st l channel taken m₀ out₀) → (stepless ≡ true → step_depth q.formula ≡ 0) → memo_holds_at q first
        → TurnTo l st.start (moves_at q) (judgements_at q) (memo_holds_at q) (to_come (fresh left) (judgements_at q (moves_at q))) on said r
        × Within st.end (length out₀) out₀ after
    unfolding asked_kept here_kept within_kept
    after_turn q plain sound =
        let (ahead, kept) = looping.exact q plain sound in
        let (to, later) = turned l ahead.label (asked_kept looping.long kept q) ahead.others plain ahead.holding ahead.resuming in (
          subst (λ (x : Option Judged). TurnTo l st.start (moves_at q) (judgements_at q) (memo_holds_at q) x on said r) ahead.same to,
          one_after kept later (omega arith) (omega arith) (omega arith) (omega (arith, looping.longer)),
        )

    pub looping_on : {m₁ : List ℕ} {t : Turn} → r ≡ Continue t → length m₁ ≡ length m → length after ≡ length out
        → length on ≡ length buffered → length said ≡ length message → Falls sum.left r
        → Looping stepless first s f body depth st l channel taken m₀ out₀ left m₁ after on said t.found t.sum t.memo
    looping_on {t = t} e lm lo lh ls falls = record {
      long = lm ∙ looping.long;
      longer = lo ∙ looping.longer;
      holds = lh ∙ looping.holds;
      carries = ls ∙ looping.carries;
      less = omega (arith, falls.goes t e, looping.less);
      exact = λ q plain sound. let (to, kept) = after_turn q plain sound in (to.goes t e, kept);
    }

    pub looping_less : {j : Option Judged} → r ≡ Break j → Falls sum.left r → Less (left + 1) j
    looping_less {j} e falls = record {
      there = λ k d. omega (arith, falls.ends k (e ∙ ap Break d), looping.less);
    }

-- The label is that of the head.
pub looping_ends : {stepless : Bool} {first memo : Memo} {s f channel taken m₀ out₀ m out buffered message after on said : List ℕ} {head : head.Head}
    {depth left : ℕ} {st : code.State} {origin from : step.Step} {sum : Judged} {r : ControlFlow (Option Judged) Turn}
    {j : Option Judged} → origin ≡ before head.label st.start
    → Looping stepless first s f head.body depth st origin.label channel taken m₀ out₀ left m out buffered message from sum memo
    → Turns stepless memo s f head.body depth st from channel taken m out buffered message sum r after on said → r ≡ Break j
    → AllTurns stepless first s f head depth st channel taken m₀ out₀ left j after
unfolding to_come
looping_ends {stepless} {first} {memo} {s} {f} {channel} {taken} {m₀} {out₀} {after = after} {head = head} {depth} {left} {st} {origin = origin} {j = j} b looping
    turns e = record {
      exact = subst (λ (l : step_label.Label). (q : Asked s f head.body depth st l channel taken m₀ out₀)
          → (stepless ≡ true → step_depth q.formula ≡ 0) → memo_holds_at q first
          → Comes st out₀ left (some_of (judgements_at q (moves_at q))) j after) (ap (λ v. v.label) b)
          (λ q plain sound. let (to, kept) = after_turn looping turns q plain sound in record { answer = to.ends j e; kept = kept });
    }

-- What is known of the body before them.
pub steps_memo : {stepless : Bool} {memo : Memo} {s f channel taken m out after : List ℕ} {head : head.Head} {depth left : ℕ}
    {st : code.State} {j : Option Judged} → Stepless f head.body stepless → memo ≡ beginning head.label stepless
    → AllTurns stepless memo s f head depth st channel taken m out left j after → AllSteps s f head depth st channel taken m out left j after
steps_memo {stepless} {memo} told begun turns = record {
  exact = λ q.
      let plain : stepless ≡ true → step_depth q.formula ≡ 0 =
      λ z. stepless_depth q.formula (sym (told.same q.formula (in_formula q.stands)) ∙ z) in
      let is : memo ≡ beginning (label_of_step q.label) stepless = begun ∙ ap (λ l. beginning l stepless) q.same in
      turns.exact q plain (subst (memo_holds_at q) (sym is) (begins q.label stepless plain));
}

-- What is left of the budget falls.
pub looping_falls : {left : ℕ} {r : ControlFlow (Option Judged) Turn} {t : Turn} → Falls left r → r ≡ Continue t → t.sum.left < left
looping_falls {t = t} falls e = falls.goes t e

pub ruleset loopings = (looping_starts, looping_on, looping_less, looping_ends)
