-- The marks of the tasks of a step are those of an output and of an input, and their private names are small ("Steps").
use mathlib.Core.Path.{◌≡◌, sym, subst}
use mathlib.Core.Bool.{Bool}
use mathlib.Core.List.{List, []}
use Prim.Native.Nat.{ℕ, ◌+◌, ◌≤◌}
use native.Mathlib.Omega.{arith}
use lib.ListN.{get_or}
use Rattle.meaning.specs.Messages.Term.{Message}
use Rattle.meaning.specs.Bytes.Process.{Prefix, output, input}
use Rattle.meaning.specs.Places.{Every, none, ◌also◌}
use Rattle.meaning.proofs.Every.{every_map, every_joined}
use Rattle.state_record.specs.Record.{Placed, Standing}
use Rattle.state_head.specs.Traverse.{Meant}
use Rattle.step_located.specs.Located.{LocatedOffer, prefixed}
use Rattle.step_located.specs.CopyStep.{Pair, CopyStep}
use Rattle.step_located.proofs.Laws.Everywhere.{every_and, every_mapped, every_flat_map}
use Rattle.step_transition.specs.Focus.{Focus, focuses}
use Rattle.step_transition.specs.Moves.{Move, alone, inside, between, offered, labelled_moves, others, takers, meetings, silent_moves}
use Rattle.step_transition.specs.Limits.{EveryMove}
use Rattle.step_transition.specs.Threads.{Judged}
use Rattle.step_transition.specs.Step.{step_of}
use Rattle.meaning.specs.Steps.State.{◌▸◌}
use Rattle.state_head.proofs.Laws.TraversalResult.{names-fit}
use Rattle.step_transition.specs.Outcome.{outcome}
use Rattle.successor_rebuild.specs.Tasks.{tasks_of}
use Rattle.successor_continuation.specs.Rests.{last_for}
use Rattle.state_layout.specs.Loaded.{NamesSmall}
use Rattle.successor_rebuild.specs.declared.tasks.Tasks.{Tasks}
use Rattle.step_transition.proofs.Laws.MovesLists.{every_filter}
use Rattle.step_transition.proofs.Laws.MovesFocuses.{every_spot}
use Rattle.successor_rebuild.proofs.Laws.RebuiltMove.{tasks_inside}
use Rattle.successor_rebuild.proofs.Laws.RebuiltMarks.{Acted, Paired, paired, offers_acted, joints_paired}
use Rattle.index_process.specs.Index.{ShortModel}

-- One mark of a plan, or none.
mark_at : (s : List ℕ) (place kind : ℕ) → get_or s place 0 ≡ kind → (t : ℕ) → t + 1 ≡ place + 1 → get_or s t 0 ≡ kind
mark_at s place kind e t h =
    let same : t ≡ place = omega arith in
    subst (λ (p : ℕ). get_or s p 0 ≡ kind) (sym same) e

no_mark : (s : List ℕ) (kind t : ℕ) → t + 1 ≡ 0 → get_or s t 0 ≡ kind
no_mark s kind t h = absurd (omega arith)

-- Both tasks of a step are meant, and their names are small.
pub record TasksMeant (s : List ℕ) (T : Tasks) : Type 0 where
  pub task : Meant s T.task
  pub other : Meant s T.other
  pub names : (n : ℕ) → n ≤ 28664 → NamesSmall T.task n
  pub other_names : (n : ℕ) → n ≤ 28664 → NamesSmall T.other n

module _ (s : List ℕ) (k start : ℕ) (few : k ≤ 128) where
  -- So is the next private name of the state that is reached.
  abbrev pub MeantTo : Move → Type 0
  MeantTo v = TasksMeant s (tasks_of (step_of start v) (last_for v) k) × ((ps : List Placed) (x : Message) → (outcome ps k x v).next ≤ 28664)

  small : k ≤ 28664
  small = omega arith

  zero_small : 0 ≤ 28664
  zero_small = omega arith

  meant_alone : (p : Focus) (a : LocatedOffer) → Acted s k a → MeantTo (alone p a)
  unfolding step_of last_for outcome
  meant_alone p a h = of a.prefix h
    where
      next : a.next ≤ 28664
      next = omega (arith, h.small)

      of : (q : Prefix) → Acted s k (prefixed a q) → MeantTo (alone p (prefixed a q))
      of (output C M) h = (
        record {
          task = (mark_at s a.place 2 h.marked, no_mark s 3);
          other = (no_mark s 2, no_mark s 3);
          names = λ n l. l also small also zero_small also next also zero_small also none;
          other_names = λ n l. l also small also zero_small also zero_small also zero_small also none;
        },
        λ ps x. omega (arith, h.small, names-fit a.rest a.bound a.next),
      )
      of (input C) h = (
        record {
          task = (no_mark s 2, mark_at s a.place 3 h.marked);
          other = (no_mark s 2, no_mark s 3);
          names = λ n l. l also small also zero_small also zero_small also next also none;
          other_names = λ n l. l also small also zero_small also zero_small also zero_small also none;
        },
        λ ps x. omega (arith, h.small, names-fit a.rest (a.bound ▸ x) a.next),
      )

  meant_inside : (p : Focus) (w : CopyStep) → Paired s w.pair → MeantTo (inside p w)
  unfolding outcome
  meant_inside p w h = (
    subst (TasksMeant s) (sym (tasks_inside start k p w)) (record {
      task = (mark_at s w.pair.sender.place 2 h.sender, mark_at s w.pair.taker.place 3 h.taker);
      other = (no_mark s 2, no_mark s 3);
      names = λ n l.
          l also small also h.sender_next also h.sender_next also h.taker_next also h.last also none;
      other_names = λ n l. l also small also zero_small also zero_small also zero_small also none;
    }),
    λ ps x. h.final _,
  )

  meant_between : (p q : Focus) (w : Pair) → Paired s w → MeantTo (between p q w)
  unfolding step_of last_for outcome
  meant_between p q w h = (
    record {
      task = (mark_at s w.sender.place 2 h.sender, no_mark s 3);
      other = (no_mark s 2, mark_at s w.taker.place 3 h.taker);
      names = λ n l. l also small also zero_small also h.taker_next also zero_small also none;
      other_names = λ n l. l also h.sender_next also zero_small also zero_small also h.last also none;
    },
    λ ps x. h.final _,
  )

  module _ (short : ShortModel s) (ps : List Placed) (judged : Every (Judged k) ps) (standing : Every (Standing s) ps) where
    abbrev Known : Focus → Type 0
    Known p = Judged k p.thread × Standing s p.thread

    known : Every Known (focuses ps)
    known = every_and (every_spot [] judged) (every_spot [] standing)

    labelled_meant : (b : Bool) (c : Message) → Every MeantTo (labelled_moves b c k ps)
    unfolding labelled_moves offered
    labelled_meant b c =
        every_flat_map _ (every_map (λ p (j, t).
        every_mapped (alone p) (every_filter _ (every_map (λ a h e. meant_alone p a h) (offers_acted short p.thread t k)))) known)

    taken_meant : (p : Focus) (a : LocatedOffer) → Acted s k a → Every MeantTo (takers p a (others p (focuses ps)))
    unfolding takers others
    taken_meant p a h =
        every_flat_map _ (every_filter _ (every_map (λ q (j, t) e.
        every_mapped (between p q) (every_flat_map _ (every_map (λ c l.
        every_map (λ w m. meant_between p q w m) (paired few a c h l)) (offers_acted short q.thread t a.next)))) known))

    silent_meant : Every MeantTo (silent_moves k ps)
    unfolding silent_moves meetings
    silent_meant =
        every_joined
        (every_flat_map _ (every_map (λ p (j, t).
        every_mapped (inside p) (every_map (λ w h. meant_inside p w h) (joints_paired short p.thread t few j))) known))
        (every_flat_map _ (every_map (λ p (j, t).
        every_flat_map _ (every_map (λ a h. taken_meant p a h) (offers_acted short p.thread t k))) known))

pub meant_move : (s : List ℕ) (ps : List Placed) (k start : ℕ) (few : k ≤ 128) → ShortModel s → Every (Judged k) ps → Every (Standing s) ps
    → EveryMove (MeantTo s k start few) k ps
meant_move s ps k start few short judged standing =
    (labelled_meant s k start few short ps judged standing, silent_meant s k start few short ps judged standing)
