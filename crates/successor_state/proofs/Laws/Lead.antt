-- The state that a step leads to, as it is formed, or over a limit ("Steps"; "Judging and its count").
use Rattle.std.specs.Prelude.{Option}
use mathlib.Core.Path.{◌≡◌, refl, sym, ap, subst, ◌∙◌}
use mathlib.Core.Bool.{Bool, true, false, ◌||◌}
use mathlib.Core.List.{List, [], ◌++◌}
use Prim.Native.Nat.{ℕ, ◌≤◌}
use native.Mathlib.Omega.{arith}
use lib.ListN.{length}
use Rattle.meaning.specs.Messages.Term.{Message}
use Rattle.meaning.specs.Steps.State.{Bound, State}
use Rattle.meaning.specs.Judging.Limits.{bound_nodes}
use Rattle.buffer.specs.Buffer.{Within}
use Rattle.state_progress.specs.TraversalResult.{Accumulated, TraversalResult, going, unless}
use Rattle.state_progress.specs.Represented.{RepresentsResult}
use Rattle.state_head.specs.Traverse.{Meant}
use Rattle.state_start.specs.Form.{Finishes}
use Rattle.state_progress.specs.Progress.{Extends}
use Rattle.state_record.specs.declared.state.State as code
use Rattle.state_progress.specs.declared.progress.Progress.{Progress}
use Rattle.step_transition.specs.Moves.{Move}
use Rattle.step_transition.specs.Outcome.{Outcome, outcome}
use Rattle.step_transition.specs.Limits.{rest_over, full}
use Rattle.state_layout.specs.Loaded.{NamesSmall}
use Rattle.step_transition.specs.WithinLimits.{WithinLimits}
use Rattle.step_transition.specs.Step.{step_of}
use Rattle.successor_rebuild.specs.Tasks.{tasks_of, sends}
use Rattle.step_transition.specs.Moving.{carried, Leading, Moving}
use Rattle.successor_continuation.specs.Rests.{last_for}
use Rattle.successor_frame.specs.Aliases.{Begun, Carries}
use Rattle.successor_rebuild.specs.Rebuild.{Prepared, rebuilt, Rebuilds}
use Rattle.successor_state.specs.Lead.{LeadsAt}
use Rattle.step_label.specs.declared.step.Step as step
use Rattle.successor_rebuild.specs.declared.tasks.Tasks.{Tasks}
use Rattle.step_transition.proofs.Laws.Threads.{threads_kept}
use Rattle.step_transition.proofs.Laws.Start.{within_threads}
use Rattle.state_head.proofs.Laws.Crowd.{roomy}
use Rattle.step_located.proofs.Laws.Writing.{push_all_writes}
use Rattle.successor_rebuild.proofs.Laws.RebuiltMove.{rebuilt_move}
use Rattle.successor_rebuild.proofs.Laws.RebuiltMeant.{meant_move}
use Rattle.successor_rebuild.proofs.Laws.Formed.{every_move, written, formed_behind, full_written}

-- A limit, and another one.
unless_twice : (a b : Bool) (c : TraversalResult) → unless a (unless b c) ≡ unless (a || b) c
unless_twice true b c = refl
unless_twice false b c = refl

-- The threads are rebuilt.
module _ {s message m out mid after : List ℕ} {st : code.State} {v : step.Step} {last next : ℕ} {q : Bool} {b r : Progress} {f : Option code.State} {T : Tasks}
    (carries : Carries st message q next out b mid) (e : q ≡ sends v.label) (tasks : T ≡ tasks_of v last st.names)
    (rebuilds : Rebuilds s message st.start st.end m T.first T.task T.second T.other mid b r after) (extends : Extends b r)
    (within : Within st.end (length out) out mid) (further : Within b.state.end (length mid) mid after) (finishes : Finishes r f) where
  module _ (S : State) (h : WithinLimits s out st S) (x : Message) (w : Move) (moving : Moving s out st S h v x w message) (leading : Leading s st S m out)
      (last_is : last ≡ last_for w) (next_is : next ≡ (outcome h.at.placed S.next x w).next) where
    abbrev arrives : Outcome
    arrives = outcome h.at.placed S.next x w

    abbrev carried_aliases : Bound
    carried_aliases = S.aliases ++ arrives.alias

    abbrev fresh : Accumulated
    fresh = record { names = arrives.next; nodes = bound_nodes carried_aliases; threads = [] }

    -- The threads, if no limit is met.
    course : bound_nodes carried_aliases ≤ 1024
        → rebuilt (carried x w) T.first T.task T.second T.other st.start h.at.placed fresh
        ≡ unless (rest_over x w || full S arrives) (going (written S arrives))
    course z =
        let same : T ≡ tasks_of (step_of st.start w) (last_for w) S.next = tasks ∙ rw (moving.same, last_is, h.at.names) in
        let built = every_move S.next h.at.placed
        (rebuilt_move h.at.placed S.next st.start x h.judged moving.stored) v.label moving.channel
        moving.earlier moving.others w moving.listed fresh (omega arith) z in
        let limited = (push_all_writes arrives.threads fresh (roomy fresh (omega arith) z)).is in
        ap (λ u. rebuilt (carried x w) u.first u.task u.second u.other st.start h.at.placed fresh) same
        ∙ built ∙ ap (unless (rest_over x w)) (limited ∙ ap (λ c. unless c (going (written S arrives))) (full_written S arrives))
        ∙ unless_twice (rest_over x w) (full S arrives) (going (written S arrives))

    rebuilt_shown : st.end ≤ b.state.end → bound_nodes carried_aliases ≤ 1024 → Begun s st.end carried_aliases next b mid
        → RepresentsResult s after r (unless (rest_over x w || full S arrives) (going (written S arrives)))
    rebuilt_shown above z begins =
        let begun : Begun s st.end carried_aliases arrives.next b mid = rw next_is at begins in
        let (meant, next_small) = every_move S.next h.at.placed
        (meant_move s h.at.placed S.next st.start h.made leading.short h.judged h.at.standing) v.label
        moving.channel moving.earlier moving.others w moving.listed in
        let small = next_small h.at.placed x in
        let same : tasks_of (step_of st.start w) (last_for w) S.next ≡ T = sym (tasks ∙ rw (moving.same, last_is, h.at.names)) in
        let prepared : Prepared s message m T.task T.other (carried x w) arrives.next =
        record {
          labelled = moving.labelled;
          short = leading.short;
          room = leading.wide;
          names = subst (λ (u : Tasks). NamesSmall u.task arrives.next) same (meant.names _ small);
          other_names = subst (λ (u : Tasks). NamesSmall u.other arrives.next) same (meant.other_names _ small);
          meant = subst (λ (u : Tasks). Meant s u.task) same meant.task;
          other_meant = subst (λ (u : Tasks). Meant s u.other) same meant.other;
        } in
        rw (course z) at (rebuilds.exact h.at.placed (carried x w) fresh (threads_kept h.at.placed within (omega arith) (within_threads h)) above
        prepared begun.shows)

  pub leads_at : st.end ≤ b.state.end → LeadsAt s st v last next message m out f after
  leads_at above = record {
    exact = λ S h x w moving leading large last_is next_is.
        formed_behind carries e extends above further finishes S h x w moving leading
        (λ off. ap (λ p. p.going) (rebuilds.stopped off).0 ∙ off) (rebuilt_shown S h x w moving leading last_is next_is above);
  }
