-- The threads of a state, rebuilt with the tasks of a step, are those of its outcome ("Steps"; "Judging and its count").
use mathlib.Core.Path.{◌≡◌, refl, sym, subst}
use mathlib.Core.Bool.{Bool, true, false, true≢false}
use mathlib.Core.List.{List, []}
use Prim.Native.Nat.{ℕ, ◌+◌, ◌≤◌}
use lib.Dec.{eqb}
use lib.ListN.{length}
use borrow.Author.Tests.{not-true}
use Rattle.meaning.specs.Messages.Term.{Message}
use Rattle.meaning.specs.Bytes.Process.{Prefix, output, input}
use Rattle.meaning.specs.Places.{Every, none, ◌also◌}
use Rattle.meaning.specs.Steps.State.{◌▸◌}
use Rattle.meaning.specs.Steps.Invariant.{Stored, BoundStored}
use Rattle.meaning.proofs.Every.{every_map, every_joined}
use Rattle.meaning.proofs.Steps.Invariant.Settling.{bound_later, worked_below, settled_below}
use Rattle.state_record.specs.Record.{Placed}
use Rattle.state_progress.specs.TraversalResult.{Accumulated, unless}
use Rattle.state_task.specs.declared.task.Task.TheVariants.{Build, BuildIn}
use Rattle.state_task.specs.declared.task.CopyAt.{CopyAt}
use Rattle.state_task.specs.declared.task.Plan.{Plan}
use Rattle.step_located.specs.Located.{LocatedOffer, prefixed}
use Rattle.step_located.specs.CopyStep.{Pair, message_of, CopyStep}
use Rattle.step_located.specs.Rebuilt.{push_all}
use Rattle.step_located.proofs.Laws.Everywhere.{every_and, every_mapped, every_flat_map, every_matching}
use Rattle.step_transition.specs.Focus.{Focus, focuses, record_at}
use Rattle.step_transition.specs.Moves.{Move, alone, inside, between, offered, labelled_moves, others, takers, meetings, silent_moves}
use Rattle.step_transition.specs.Outcome.{same, outcome, sent_by, last_of}
use Rattle.step_transition.specs.Limits.{pair_over, rest_over, EveryMove}
use Rattle.step_transition.specs.Threads.{Judged}
use Rattle.step_transition.specs.Step.{step_of, arity_of}
use Rattle.successor_rebuild.specs.Tasks.{plan, tasks_of}
use Rattle.successor_continuation.specs.Rests.{last_for}
use Rattle.step_transition.specs.Moving.{carried}
use Rattle.successor_rebuild.specs.Rebuild.{rebuilt}
use Rattle.successor_rebuild.specs.declared.tasks.Tasks.{Tasks}
use Rattle.step_transition.proofs.Laws.LimitsPairs.{PairOpens, pair_opens}
use Rattle.step_transition.proofs.Laws.MovesFocuses.{Stands, spots_stand, every_spot}
use Rattle.step_transition.proofs.Laws.MovesLists.{every_filter}
use Rattle.successor_rebuild.proofs.Laws.Rebuilt.{rebuilt_one}
use Rattle.successor_rebuild.proofs.Laws.RebuiltBoth.{rebuilt_both}
use Rattle.successor_rebuild.proofs.Laws.RebuiltLeaves.{judged_later, Offers, offers_known, LeavesCopyStep, joints_known}

-- A silent step in copies has an arity.
pub some_arity : (w : CopyStep) → eqb (arity_of w) 0 ≡ false
some_arity w = of w.two
  where
    of : (two : Bool) → eqb (elim two [ true ↦ 2 | false ↦ 1 ]) 0 ≡ false
    of true = refl
    of false = refl

-- So it is done by one task.
chosen_tasks : (b : Bool) (x y : Tasks) → b ≡ false → elim b [ true ↦ x | false ↦ y ] ≡ y
chosen_tasks true x y e = absurd (true≢false e)
chosen_tasks false x y e = refl

abbrev pub inside_plan : Pair → Plan
inside_plan v = plan (v.sender.place + 1) (v.taker.place + 1) v.sender.next v.taker.next (last_of v)

abbrev pub inside_copy : CopyStep → CopyAt
inside_copy w = record { place = w.place + 1; arity = arity_of w; second = w.pair.sender.next }

abbrev pub inside_tasks : (start k : ℕ) → Focus → CopyStep → Tasks
inside_tasks start k p w = record {
  first = record_at start p;
  task = BuildIn (inside_plan w.pair) (inside_copy w) k;
  second = record_at start p;
  other = Build (plan 0 0 0 0 0) k;
}

pub tasks_inside : (start k : ℕ) (p : Focus) (w : CopyStep)
    → tasks_of (step_of start (inside p w)) (last_for (inside p w)) k ≡ inside_tasks start k p w
unfolding step_of last_for
tasks_inside start k p w = chosen_tasks (eqb (arity_of w) 0) _ _ (some_arity w)

-- The messages that the rest of a taker is settled under have private names below those of the rest.
taken_bound : {k : ℕ} (w : Pair) → PairOpens k w → BoundStored (last_of w) (w.taker.bound ▸ sent_by w)
taken_bound w o =
    let (later, threads) = settled_below w.sender.rest o.sender in
    worked_below (bound_later later o.sender) (message_of w.sender.prefix) (bound_later later o.taker)

module _ (ps : List Placed) (k start : ℕ) (x : Message) where
  abbrev pub RebuiltTo : Move → Type 0
  RebuiltTo v =
      let T = tasks_of (step_of start v) (last_for v) k in
      (g : Accumulated) → length g.threads ≤ 32 → g.nodes ≤ 1024
      → rebuilt (carried x v) T.first T.task T.second T.other start ps g
      ≡ unless (rest_over x v) (push_all (outcome ps k x v).threads g)

  -- A step of one thread: an output, or an input.
  rebuilt_alone : Stored k x → (p : Focus) (a : LocatedOffer) → Stands ps p → Offers p.thread k a → RebuiltTo (alone p a)
  unfolding step_of last_for carried rest_over outcome
  rebuilt_alone stored p a e h = of a.prefix h
    where
      of : (q : Prefix) → Offers p.thread k (prefixed a q) → RebuiltTo (alone p (prefixed a q))
      of (output C M) h =
          let b = plan (a.place + 1) 0 0 a.next 0 in
          rebuilt_one _ start (Build b k) (Build (plan 0 0 0 0 0) k) p _ _ (h.sender b _ refl (refl, h.opens.stored)) ps e.parts
      of (input C) h =
          let b = plan 0 (a.place + 1) 0 0 a.next in
          let bound = every_joined h.opens.stored (bound_later h.opens.later (stored also none)) in
          rebuilt_one x start (Build b k) (Build (plan 0 0 0 0 0) k) p _ _ (h.taker b x refl (refl, bound)) ps e.parts

  -- A silent step of one thread, in its copies.
  rebuilt_inside : (p : Focus) (w : CopyStep) → Stands ps p → LeavesCopyStep p.thread k w → RebuiltTo (inside p w)
  unfolding step_of last_for carried rest_over outcome
  rebuilt_inside p w e h g few light =
      let v = w.pair in
      let left = h.left (inside_plan v) (inside_copy w) (sent_by v) (record {
        place = refl;
        arity = refl;
        second = refl;
        inner = refl;
        sends = (refl, h.opens.sender);
        takes = (refl, taken_bound v h.opens);
        one = h.copied.one;
        both = h.copied.both;
      }) in
      subst (λ (T : Tasks).
      rebuilt (sent_by v) T.first T.task T.second T.other start ps g
      ≡ unless (pair_over v) (push_all (outcome ps k x (inside p w)).threads g)) (sym (tasks_inside start k p w))
      (rebuilt_one (sent_by v) start (BuildIn (inside_plan v) (inside_copy w) k) (Build (plan 0 0 0 0 0) k) p _ _ left ps e.parts g few light)

  -- A silent step of two threads.
  rebuilt_between : (p q : Focus) (a c : LocatedOffer) → Stands ps p → Stands ps q → same p q ≡ false → Offers p.thread k a
      → Offers q.thread a.next c → RebuiltTo (between p q (record { sender = a; taker = c }))
  unfolding step_of last_for carried rest_over outcome
  rebuilt_between p q a c e f apart h l g few light =
      let w : Pair = record { sender = a; taker = c } in
      let o = pair_opens a c h.opens l.opens in
      let b = plan (a.place + 1) 0 0 c.next 0 in
      let d = plan 0 (c.place + 1) 0 0 (last_of w) in
      rebuilt_both (sent_by w) start (Build b k) (Build d a.next) ps p q e.parts f.parts _ _ _ _
      (h.sender b (sent_by w) refl (refl, o.sender)) (l.taker d (sent_by w) refl (refl, taken_bound w o)) apart g few light

  module _ (judged : Every (Judged k) ps) where
    abbrev Known : Focus → Type 0
    Known p = Stands ps p × Judged k p.thread

    known : Every Known (focuses ps)
    known = every_and (spots_stand ps) (every_spot [] judged)

    labelled_rebuilt : Stored k x → (b : Bool) (c : Message) → Every RebuiltTo (labelled_moves b c k ps)
    unfolding labelled_moves offered
    labelled_rebuilt stored b c =
        every_flat_map _ (every_map (λ p (e, j).
        every_mapped (alone p) (every_filter _ (every_map (λ a h t. rebuilt_alone stored p a e h) (offers_known p.thread k j)))) known)

    taken_rebuilt : (p : Focus) (a : LocatedOffer) → Stands ps p → Offers p.thread k a → Every RebuiltTo (takers p a (others p (focuses ps)))
    unfolding takers others
    taken_rebuilt p a e h =
        every_flat_map _ (every_filter _ (every_map (λ q (f, j) t.
        every_mapped (between p q) (every_flat_map _ (every_map (λ c l.
        every_matching a c (rebuilt_between p q a c e f (not-true _ t) h l))
        (offers_known q.thread a.next (judged_later q.thread h.opens.later j))))) known))

    silent_rebuilt : Every RebuiltTo (silent_moves k ps)
    unfolding silent_moves meetings
    silent_rebuilt =
        every_joined
        (every_flat_map _ (every_map (λ p (e, j).
        every_mapped (inside p) (every_map (λ w h. rebuilt_inside p w e h) (joints_known p.thread k j))) known))
        (every_flat_map _ (every_map (λ p (e, j).
        every_flat_map _ (every_map (λ a h. taken_rebuilt p a e h) (offers_known p.thread k j))) known))

pub rebuilt_move : (ps : List Placed) (k start : ℕ) (x : Message) → Every (Judged k) ps → Stored k x → EveryMove (RebuiltTo ps k start x) k ps
rebuilt_move ps k start x judged stored = (labelled_rebuilt ps k start x judged stored, silent_rebuilt ps k start x judged)
