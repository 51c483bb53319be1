-- One turn of a step formula: the next step, and its body judged where that leads ("Judging and its count").
use Rattle.std.specs.Prelude.{Option, Some, None}
use Rattle.std.specs.declared.ops.ControlFlow.{ControlFlow}
use Rattle.std.specs.declared.ops.ControlFlow.TheVariants.{Break}
use mathlib.Core.Path.{◌≡◌, refl, sym, ap, subst, ◌∙◌}
use mathlib.Core.Bool.{Bool, true, false, ◌||◌}
use mathlib.Core.List.{List, [], ◌∷◌, ◌++◌}
use Prim.Native.Nat.{ℕ, ◌+◌, ◌-◌, ◌≤◌}
use native.Mathlib.Omega.{arith}
use lib.ListN.{length, length-append}
use Rattle.meaning.specs.Messages.Term.{Message, leaf, public, nodes}
use Rattle.meaning.specs.Messages.Normal.{normal}
use Rattle.meaning.specs.Bytes.Formula.{Label, Formula}
use Rattle.meaning.specs.Bytes.Nesting.{step_depth}
use Rattle.meaning.specs.Bytes.Scope.{binds_label}
use Rattle.meaning.specs.Places.{none}
use Rattle.meaning.specs.Steps.State.{Bound, State, worked}
use Rattle.meaning.specs.Steps.Invariant.{Stored, BoundStored}
use Rattle.meaning.specs.Judging.{judge}
use Rattle.meaning.specs.Judging.Visits.{Arrival}
use Rattle.meaning.proofs.Messages.{normal_forms}
use Rattle.meaning.proofs.Test.{neither}
use Rattle.meaning.proofs.Steps.Invariant.Settling.{worked_below}
use Rattle.buffer.specs.Buffer.{Within}
use Rattle.message_bytes.proofs.Theorems.{run_length}
use Rattle.buffer.proofs.Laws.Buffer.{one_after}
use Rattle.message_term.proofs.Theorems.{bound_length}
use Rattle.state_record.specs.declared.state.State as code
use Rattle.state_layout.specs.Layout.{StateAt, over_arrival}
use Rattle.state_layout.specs.Loaded.{IsRunOf}
use Rattle.step_located.proofs.Laws.Everywhere.{every_first}
use Rattle.step_transition.specs.Moves.{Move}
use Rattle.step_transition.specs.Outcome.{Outcome, outcome, arrival_of}
use Rattle.step_transition.specs.Limits.{Goes}
use Rattle.step_transition.specs.WithinLimits.{WithinLimits}
use Rattle.step_transition.specs.Step.{step_of}
use Rattle.step_transition.specs.Behind.{Behind, later}
use Rattle.step_transition.specs.Moving.{Leading}
use Rattle.step_label.specs.declared.step.Step as step
use Rattle.step_label.specs.declared.step.Label as step_label
use Rattle.step_label.specs.declared.step.Label.TheVariants.{Input}
use Rattle.step_transition.proofs.Laws.Limits.{judged_on}
use Rattle.step_transition.proofs.Laws.Start.{within_limits, step_within_limits}
use Rattle.successor_threadless.specs.Threadless.{StandsFor, itself, threadless}
use Rattle.successor_state.specs.Lead.{FormsFor}
use Rattle.successor_rebuild.proofs.Laws.Formed.{every_move}
use Rattle.truth_label.specs.Place.{FormulaAt}
use Rattle.truth_label.specs.Head.{label_of_step, channel_of, taken_of}
use Rattle.step_between.specs.Buffered.{Resuming}
use Rattle.successor_next.specs.Arrive.{Taken, ArrivedAt, Arrives}
use Rattle.successor_next.specs.declared.arrive.Arrived.{Arrived}
use Rattle.successor_next.proofs.Laws.Sending.{added}
use Rattle.successor_next.proofs.Laws.Arrive.{listed, sending}
use Rattle.truth_body.specs.Judged.{judged_of}
use Rattle.truth_body.specs.Memo.{memoised}
use Rattle.truth_judge.specs.Steps.{Asked, moves_at, judgements_at, memo_holds_at, to_come, TurnTo, turn_of, JudgesBody, Counts, Turns}
use Rattle.truth_body.specs.declared.judged.Judged.{Judged}
use Rattle.truth_body.specs.declared.memo.Memo.{Memo}
use Rattle.truth_judge.specs.declared.turn.Turn.{Turn}
use Rattle.truth_judge.proofs.Laws.Parts.{none_to_come, spent_to_come, more_to_come}
use Rattle.truth_body.proofs.Laws.Memo.{memoises}
use Rattle.truth_body.proofs.Laws.Stepless.{stepless_judge}
use Rattle.truth_body.proofs.Laws.Reached.{reached, kept_below, room_kept}

-- A label adds an alias where its step does.
added_by : (a : Label) → added (label_of_step a) ≡ binds_label a
added_by (Label.output C) = refl
added_by (Label.input C M) = refl
added_by Label.silent = refl

-- The message of an input is a stored one, and so is public name 0.
name_stored : (n : ℕ) → Stored n (leaf (public 0))
unfolding normal
name_stored n = ((normal_forms (leaf (public 0))).0, tt)

taken_stored : (a : Label) {n : ℕ} {ρ : Bound} → BoundStored n ρ → Stored n (taken_of ρ a)
taken_stored (Label.output C) {n} b = name_stored n
taken_stored (Label.input C M) b = every_first (worked_below b M none)
taken_stored Label.silent {n} b = name_stored n

taken_small : (a : Label) {taken : List ℕ} (ρ : Bound) → (label_of_step a ≡ Input → IsRunOf taken (taken_of ρ a)) → nodes (taken_of ρ a) ≤ 255
taken_small (Label.output C) ρ f = omega arith
taken_small (Label.input C M) ρ f = let l = f refl in omega (arith, l.small, ap length l.same, run_length (worked ρ M))
taken_small Label.silent ρ f = omega arith

-- What is asked of the search for steps.
module _ {s f : List ℕ} {body depth : ℕ} {st : code.State} {l : step_label.Label} {channel taken m out : List ℕ}
    (q : Asked s f body depth st l channel taken m out) where
  abbrev here : State
  here = q.arrival.state

  abbrev takes : Message
  takes = taken_of here.aliases q.label

  abbrev led : Move → Arrival
  led w = arrival_of here (outcome q.here.within.at.placed here.next takes w)

  small : nodes takes ≤ 255
  small = taken_small q.label here.aliases (λ e. q.taking (q.same ∙ e))

  taking : Taken here taken l takes
  taking = record { labelled = q.taking; stored = taken_stored q.label q.here.within.stored; small = small }

  leading : Leading s st here m out
  leading =
      let h = q.here.within in
      record {
        short = q.room.short;
        wide = q.room.wide;
        room =
            omega (
              arith,
              q.here.early,
              q.here.few,
              q.room.long,
              h.at.aliases.stands.size,
              bound_length here.aliases,
              h.at.nodes,
              h.light,
            );
        few = omega (arith, q.here.few);
      }

-- A state that will do for the one that a move leads to.
module _ {s out out₁ : List ℕ} {st : code.State} {S : State} (h : WithinLimits s out st S) {o : Outcome} (goes : Goes S o)
    (holds : over_arrival (arrival_of S o) ≡ false → (st' : code.State) → StateAt s out₁ st' (arrival_of S o).state → WithinLimits s out₁ st' (arrival_of S o).state) where
  record Serves (F : Formula) (B : Arrival) : Type 0 where
    aliases : B.state.aliases ≡ S.aliases ++ o.alias
    holding : over_arrival B ≡ false → (st' : code.State) → StateAt s out₁ st' B.state → WithinLimits s out₁ st' B.state
    judged : judge F B ≡ judge F (arrival_of S o)

  serves : (F : Formula) (stepless : Bool) (B : Arrival) → (stepless ≡ true → step_depth F ≡ 0) → StandsFor stepless (arrival_of S o) B → Serves F B
  serves F stepless B z itself = record { aliases = refl; holding = holds; judged = refl }
  serves F stepless B z (threadless free) = record {
    aliases = refl;
    holding = λ e st' a. within_limits a (neither o.large _ e).1 none none (goes.aliases h.stored) (goes.small h.small);
    judged = sym (stepless_judge F (arrival_of S o) (z refl) free);
  }

-- The body judged at the state that a move leads to.
module _ {s f channel taken m m₁ out out₁ after : List ℕ} {body depth : ℕ} {st : code.State} {l : step_label.Label} {left high : ℕ} {g : Option code.State}
    {j : Option Judged} {stepless : Bool} (wm : Within 0 high m m₁) (wo : Within st.end (length out) out out₁)
    {memo : Memo} (judges : JudgesBody memo s f body depth g m₁ out₁ left j after) (q : Asked s f body depth st l channel taken m out)
    (plain : stepless ≡ true → step_depth q.formula ≡ 0) (sound : memo_holds_at q memo) where
  visited : (earlier others : List Move) (w : Move) → moves_at q ≡ earlier ++ (w ∷ others) → FormsFor stepless s st.end (led q w) g out₁
      → (j ≡ judged_of left (judge q.formula (led q w))) × Within st.end (length out) out after
      × ((d : Judged) → j ≡ Some d → memo_holds_at q (memoised memo g d.truth d.limited (left - d.left)))
  visited earlier others w e (B, stands-for, forms) =
      let h = q.here.within in
      let o = outcome h.at.placed (here q).next (takes q) w in
      let channelled = channel_of (here q).aliases q.label in
      let sends = sending h l channelled (takes q) earlier others w e in
      let holds = every_move (here q).next h.at.placed (step_within_limits s out st (here q) (takes q) h (taking q).stored (small q)) l channelled
      earlier others w e in
      let goes = every_move (here q).next h.at.placed (judged_on h.at.placed (here q) (takes q) h.judged (taking q).stored (small q)) l
      channelled earlier others w e in
      let served = serves h goes (λ free st' at. holds free out₁ st' at) q.formula stepless B plain stands-for in
      let alias : length o.alias ≡ binds_label q.label = sends.alias h.at.placed (here q).next ∙ rw q.same (added_by q.label) in
      let many : binds_label q.label + length (here q).aliases ≡ length B.state.aliases =
      omega (arith, length-append (here q).aliases o.alias, ap length served.aliases) in
      let (there, above) = reached forms served.holding q.steps q.here.early (omega (arith, q.here.few, bound q.label)) in
      let stands : FormulaAt f body depth q.steps (length B.state.aliases) q.formula q.next =
      subst (λ (n : ℕ). FormulaAt f body depth q.steps n q.formula q.next) many q.stands in
      let (answer, kept) = judges.exact q.formula B stands there (room_kept wm.long wo.long q.room)
      (sound.led B o.alias alias served.aliases) in
      let later = kept_below g above (omega (arith, wo.long, h.at.records.size, q.here.early, q.room.long)) kept in (
        answer ∙ ap (judged_of left) served.judged,
        one_after wo later (omega arith) (omega arith) (omega arith) (omega (arith, wo.long)),
        λ d e. memoises q.formula q.label (here q).aliases left B o.alias alias served.aliases (sym e ∙ answer) s out₁ q.steps memo g there sound,
      )
    where
      bound : (a : Label) → binds_label a ≤ 1
      bound (Label.output C) = omega arith
      bound (Label.input C M) = omega arith
      bound Label.silent = omega arith

-- What a turn comes to.
module _ {stepless : Bool} {s channel taken m out out₁ buffered message on said : List ℕ} {st : code.State} {from : step.Step} {r : Option Arrived}
    (arrives : Arrives stepless s channel taken st from m out buffered message r out₁ on said) (wo : Within st.end (length out) out out₁) where
  found : {f : List ℕ} {body depth : ℕ} (q : Asked s f body depth st from.label channel taken m out) {others : List Move}
      → 510 ≤ length buffered → 510 ≤ length message → Resuming from.label st.start (moves_at q) buffered message from others
      → ArrivedAt stepless s st (here q) q.here.within.at.placed (takes q) r out₁ on said others
  found q wide long b =
      arrives.exact (here q) (channel_of (here q).aliases q.label) (takes q) q.here.within q.channelled (taking q) (leading q) wide long b

  pub turn_none : (memo : Memo) (f : List ℕ) (body depth : ℕ) (sum : Judged) → r ≡ None
      → Turns stepless memo s f body depth st from channel taken m out buffered message sum (Break (Some sum))
      out₁ on said
  turn_none memo f body depth sum e = record { exact = λ q z sound {others} wide long b. (of q others (found q wide long b), wo) }
    where
      of : (q : Asked s f body depth st from.label channel taken m out) (others : List Move)
          → ArrivedAt stepless s st (here q) q.here.within.at.placed (takes q) r out₁ on said others
          → TurnTo from.label st.start (moves_at q) (judgements_at q) (memo_holds_at q) (to_come sum (judgements_at q others)) on said
          (Break (Some sum))
      of q [] a = record {
        ends = λ j d. let same : j ≡ Some sum = cc in same ∙ none_to_come sum;
        goes = λ t d. absurd (let z : ◌≡◌ {A = ℕ} 0 1 = cc in omega arith);
      }
      of q (w ∷ others) (g, a, forms, kept) = absurd (let z : ◌≡◌ {A = ℕ} 0 1 = cc in omega arith)

  module _ {f m₁ after : List ℕ} {body depth left high : ℕ} {memo : Memo} {y : Arrived} {j : Option Judged} (e : r ≡ Some y)
      (wm : Within 0 high m m₁) (judges : JudgesBody memo s f body depth y.formed m₁ out₁ left j after) where
    -- The move that was made, what the body came to, and what stays.
    record Made (q : Asked s f body depth st from.label channel taken m out) (others : List Move) : Type 0 where
      move : Move
      behind : List Move
      same : others ≡ move ∷ behind
      is : y.step ≡ step_of st.start move
      label : y.step.label ≡ from.label
      after_it : Resuming from.label st.start (moves_at q) on said y.step behind
      answer : j ≡ judged_of left (judge q.formula (led q move))
      kept : Within st.end (length out) out after
      memoising : (d : Judged) → j ≡ Some d → memo_holds_at q (memoised memo y.formed d.truth d.limited (left - d.left))

    made : (q : Asked s f body depth st from.label channel taken m out) → (stepless ≡ true → step_depth q.formula ≡ 0)
        → memo_holds_at q memo → {others : List Move}
        → 510 ≤ length buffered → 510 ≤ length message → Resuming from.label st.start (moves_at q) buffered message from others → Made q others
    made q z sound {others} wide long b = of others b.behind (found q wide long b)
      where
        of : (others : List Move) → Behind from.label st.start (moves_at q) from others
            → ArrivedAt stepless s st (here q) q.here.within.at.placed (takes q) r out₁ on said others → Made q others
        of [] b a = absurd (let z : ◌≡◌ {A = ℕ} 0 1 = cc in omega arith)
        of (w ∷ others) b (g', a, forms, sent) =
            let is : y.step ≡ step_of st.start w = cc in
            let state : g' ≡ y.formed = cc in
            let (earlier, there) = listed b in
            let sends = sending q.here.within from.label (channel_of (here q).aliases q.label) (takes q) earlier others w there in
            let (answer, kept, memoising) = visited wm wo judges q z sound earlier others w there (rw state at forms) in
            record {
              move = w;
              behind = others;
              same = refl;
              is = is;
              label = ap (λ u. u.label) is ∙ sends.label;
              after_it =
                  subst (λ (u : step.Step). Resuming from.label st.start (moves_at q) on said u others) (sym is)
                  (record { behind = later earlier w there; keeping = sent });
              answer = answer;
              kept = kept;
              memoising = memoising;
            }

  module _ {f m₁ after : List ℕ} {body depth high : ℕ} {memo : Memo} {sum : Judged} {y : Arrived} (e : r ≡ Some y)
      (wm : Within 0 high m m₁) where
    spent : JudgesBody memo s f body depth y.formed m₁ out₁ sum.left None after
        → Turns stepless memo s f body depth st from channel taken m out buffered message sum (Break None) after on said
    spent judges = record {
      exact = λ q z sound wide long b.
          let w = made e wm judges q z sound wide long b in
          let total = spent_to_come sum _ (judgements_at q w.behind) w.answer refl in (
            record {
              ends = λ k x. let same : k ≡ None = cc in same ∙ total ∙ ap (λ ws. to_come sum (judgements_at q ws)) (sym w.same);
              goes = λ t x. absurd (let z : ◌≡◌ {A = ℕ} 0 1 = cc in omega arith);
            },
            w.kept,
          );
    }

    goes_on : {d : Judged} → JudgesBody memo s f body depth y.formed m₁ out₁ sum.left (Some d) after
        → Turns stepless memo s f body depth st from channel taken m out buffered message sum (turn_of memo y.formed y.step sum (Some d)) after on said
    goes_on {d} judges = record {
      exact = λ q z sound wide long c.
          let w = made e wm judges q z sound wide long c in
          let more = more_to_come sum _ (judgements_at q w.behind) w.answer refl refl refl in
          let now : Judged = record { truth = sum.truth || d.truth; limited = sum.limited || d.limited; left = d.left } in (
            record {
              ends = λ k x. absurd (let z : ◌≡◌ {A = ℕ} 0 1 = cc in omega arith);
              goes = λ t x.
                  let found_it : y.step ≡ t.found = cc in
                  let sums : now ≡ t.sum = cc in
                  let same-memo : memoised memo y.formed d.truth d.limited (sum.left - d.left) ≡ t.memo = cc in
                  record {
                    label = rw found_it at w.label;
                    others = w.behind;
                    resuming =
                        subst (λ (u : step.Step). Resuming from.label st.start (moves_at q) on said u w.behind) found_it w.after_it;
                    same =
                        ap (λ n. to_come n (judgements_at q w.behind)) (sym sums) ∙ more
                        ∙ ap (λ ws. to_come sum (judgements_at q ws)) (sym w.same);
                    holding = subst (memo_holds_at q) same-memo (w.memoising d refl);
                  };
            },
            w.kept,
          );
    }

    pub turn_by : {t : ControlFlow (Option Judged) Turn} → Counts memo s f body depth y.step y.formed m₁ out₁ sum t after
        → Turns stepless memo s f body depth st from channel taken m out buffered message sum t after on said
    turn_by {t} c = rw c.answer (of c.judged c.judges)
      where
        of : (j : Option Judged) → JudgesBody memo s f body depth y.formed m₁ out₁ sum.left j after
            → Turns stepless memo s f body depth st from channel taken m out buffered message sum (turn_of memo y.formed y.step sum j) after on said
        of (Some d) judges = goes_on judges
        of None judges = spent judges
