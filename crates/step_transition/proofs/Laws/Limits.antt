-- A step leads to a state that is over a limit exactly if its settled rests are, or if it has too much in it; if it is not, its threads
-- meet no limit again ("Judging and its count").
use Prim.Native.Nat.{ℕ, ◌≤◌}
use native.Mathlib.Omega.{arith}
use mathlib.Core.Path.{ap, ◌∙◌}
use mathlib.Core.Bool.{Bool, ◌||◌}
use mathlib.Core.List.{List, map, flat_map}
use Rattle.meaning.specs.Messages.Term.{Message}
use Rattle.meaning.specs.Places.{Every, none, ◌also◌}
use Rattle.meaning.specs.Steps.State.{Thread, act, repl, names, settle}
use Rattle.meaning.specs.Steps.Invariant.{Stored}
use Rattle.meaning.specs.Judging.Limits.{over_settling}
use Rattle.meaning.proofs.Every.{every_map, every_joined}
use Rattle.meaning.proofs.Steps.Invariant.Settling.{bound_later, settled_below}
use Rattle.state_record.specs.Record.{Placed, process_of, bound_of}
use Rattle.state_record.specs.Place.{rest_at}
use Rattle.step_located.specs.Located.{LocatedOffer}
use Rattle.step_located.specs.CopyStep.{Pair, CopyStep, matching}
use Rattle.step_located.specs.Rebuilt.{rest_of}
use Rattle.step_located.proofs.Laws.Everywhere.{every_mapped, every_flat_map, every_matching}
use Rattle.step_transition.specs.Focus.{Focus, focuses, offers_of}
use Rattle.step_transition.specs.Moves.{Move, alone, inside, between, offered, labelled_moves, others, takers, meetings, silent_moves}
use Rattle.step_transition.specs.Outcome.{bound_after, sender_rest, taker_rest, replaced_in, outcome}
use Rattle.step_transition.specs.Threads.{Judged}
use Rattle.step_transition.specs.Limits.{rest_over, EveryMove, LimitsJudged, JudgedOn}
use Rattle.step_transition.proofs.Laws.LimitsLeft.{Clear, clear_later, AllClear, settled_stored, rest_small}
use Rattle.step_transition.proofs.Laws.LimitsReplaced.{Opens, Replaces, replaces}
use Rattle.step_transition.proofs.Laws.LimitsPairs.{PairOpens, pair_opens}
use Rattle.step_transition.proofs.Laws.LimitsJoints.{stepped, CopyStepOpens, joins}
use Rattle.step_transition.proofs.Laws.LimitsFocuses.{Put, put_one, PutBoth, clear_parts, put_left, put_right}
use Rattle.step_transition.proofs.Laws.LimitsOutcome.{OutcomeLimits, follows_limits, follows_goes, settled_over, bound-after, alias_after}
use Rattle.step_transition.proofs.Laws.LimitsOutcome.{bound_small, alias_small, met_follows}
use Rattle.step_transition.proofs.Laws.MovesLists.{every_filter}
use Rattle.step_transition.proofs.Laws.MovesFocuses.{Stands, spots_stand, left_of, right_of}
use Rattle.step_transition.proofs.Laws.MovesOthers.{others_are}

-- A thread of a state is that of a settled process.
alone_settled : {k : ℕ} (t : Thread) → Clear k t → Every (Clear k) (settle (process_of t) (bound_of t) 0)
unfolding settle
alone_settled (act ρ p P) c = c also none
alone_settled (repl ρ P) c = c also none

-- The messages of what acts in a step.
abbrev pub OpensTo : ℕ → Move → Type 0
OpensTo k (alone p a) = Opens k a
OpensTo k (inside p w) = PairOpens k w.pair
OpensTo k (between p q w) = PairOpens k w

module _ (ps : List Placed) (k : ℕ) (x : Message) (judged : Every (Judged k) ps) where
  abbrev Ends : Move → Type 0
  Ends v = OutcomeLimits k x (outcome ps k x v) (rest_over x v) × OpensTo k v

  abbrev Offered : Focus → ℕ → LocatedOffer → Type 0
  Offered p m a = Replaces (process_of p.thread.thread) p.thread.place (bound_of p.thread.thread) 0 m a

  all_clear : (j : ℕ) → k ≤ j → AllClear j ps
  all_clear j le = every_map (λ t h. clear_later le t.thread (record { stored = h.stored; free = h.free; small = h.small })) judged

  own_clear : (p : Focus) → Stands ps p → Clear k p.thread.thread
  own_clear p h = (clear_parts p h (all_clear k (omega arith))).1

  replaced_spot : (p : Focus) (m : ℕ) → k ≤ m → Clear k p.thread.thread → Every (Offered p m) (offers_of p.thread m)
  replaced_spot p m le c = replaces _ _ _ 0 m (alone_settled p.thread.thread (clear_later le p.thread.thread c))

  -- A step of one thread.
  ends_alone : Stored k x → (p : Focus) (a : LocatedOffer) → Offered p k a → ((j : ℕ) → k ≤ j → Put j (focuses ps) p) → Ends (alone p a)
  unfolding outcome rest_over
  ends_alone stored p a r put =
      let σ = bound_after x a in
      let m = a.next in
      let here = rest_at a.place a.prefix in
      let bound = bound-after x a r.opens.later stored r.opens.stored in
      let (later, threads) = settled_below a.rest bound in
      let j = names a.rest σ m in
      let z = rest_of a σ m in
      let l = put j (omega (arith, r.opens.later)) (replaced_in p.thread a.place k z) z (r.left z j later) in (
        record {
          later = omega (arith, r.opens.later);
          over = ap (λ b. over_settling a.rest σ m || b) (l.over ∙ settled_over a.rest here σ m j);
          stored = l.stored (settled_stored a.rest here σ m threads);
          alias = bound_later later (alias_after a r.opens.stored);
          small = λ s e. l.small (rest_small a.rest here σ m e (bound_small x a s r.opens.small));
          alias_small = alias_small a r.opens.allowed;
        },
        r.opens,
      )

  -- A silent step of one thread, and one of two.
  ends_inside : (p : Focus) (w : CopyStep) → CopyStepOpens (process_of p.thread.thread) p.thread.place (bound_of p.thread.thread) 0 k w
      → ((j : ℕ) → k ≤ j → Put j (focuses ps) p) → Ends (inside p w)
  unfolding outcome rest_over
  ends_inside p w h put =
      let zx = sender_rest w.pair in
      let zy = taker_rest w.pair in (
        met_follows w.pair _ h.opens (λ j le.
            put j (omega (arith, h.opens.later)) (replaced_in p.thread w.place k (stepped w zx zy)) _ (h.left zx zy j le)),
        h.opens,
      )

  ends_between : (p q : Focus) (a c : LocatedOffer) → Offered p k a → Offered q a.next c
      → ((j : ℕ) → k ≤ j → PutBoth j (focuses ps) p q) → Ends (between p q (record { sender = a; taker = c }))
  unfolding outcome rest_over
  ends_between p q a c r s put =
      let w : Pair = record { sender = a; taker = c } in
      let zx = sender_rest w in
      let zy = taker_rest w in
      let o = pair_opens a c r.opens s.opens in (
        met_follows w _ o (λ j le.
            put j (omega (arith, o.later)) (replaced_in p.thread a.place k zx) zx (replaced_in q.thread c.place a.next zy) zy
            (r.left zx j (omega (arith, s.opens.later))) (s.left zy j le)),
        o,
      )

  -- So for all of them.
  labelled_ends : Stored k x → (output : Bool) (c : Message) → Every Ends (labelled_moves output c k ps)
  unfolding labelled_moves offered
  labelled_ends stored output c =
      every_flat_map _ (every_map (λ p h.
      every_mapped (alone p) (every_filter _ (every_map (λ a r e. ends_alone stored p a r (λ j le. put_one p h (all_clear j le)))
      (replaced_spot p k (omega arith) (own_clear p h))))) (spots_stand ps))

  met_ends : (p q : Focus) (a : LocatedOffer) → Offered p k a → ((j : ℕ) → k ≤ j → PutBoth j (focuses ps) p q) → Clear k q.thread.thread
      → Every Ends (map (between p q) (flat_map (matching a) (offers_of q.thread a.next)))
  met_ends p q a r put clear =
      every_mapped (between p q) (every_flat_map _ (every_map (λ c s. every_matching a c (ends_between p q a c r s put))
      (replaced_spot q a.next r.opens.later clear)))

  taken_ends : (p : Focus) (a : LocatedOffer) → Stands ps p → Offered p k a → Every Ends (takers p a (others p (focuses ps)))
  unfolding takers
  taken_ends p a h r =
      let (before, own, behind) = clear_parts p h (all_clear k (omega arith)) in
      rw (others_are ps p h)
      (every_flat_map _ (every_joined
      (every_mapped (left_of p) (every_map (λ q s.
      met_ends p (left_of p q) a r (λ j le. put_left p h (all_clear j le) q s) (clear_parts q s before).1) (spots_stand p.before)))
      (every_mapped (right_of p) (every_map (λ q s.
      met_ends p (right_of p q) a r (λ j le. put_right p h (all_clear j le) q s) (clear_parts q s behind).1) (spots_stand p.behind)))))

  silent_ends : Every Ends (silent_moves k ps)
  unfolding silent_moves meetings
  silent_ends =
      every_joined
      (every_flat_map _ (every_map (λ p h.
      every_mapped (inside p) (every_map (λ w u. ends_inside p w u (λ j le. put_one p h (all_clear j le)))
      (joins _ _ _ 0 k (alone_settled p.thread.thread (own_clear p h))))) (spots_stand ps)))
      (every_flat_map _ (every_map (λ p h.
      every_flat_map _ (every_map (λ a r. taken_ends p a h r) (replaced_spot p k (omega arith) (own_clear p h)))) (spots_stand ps)))

  ends : Stored k x → EveryMove Ends k ps
  ends stored = (labelled_ends stored, silent_ends)

pub limits_judged : LimitsJudged
limits_judged ps S x judged stored =
    let (labelled, silent) = ends ps S.next x judged stored in
    (λ output c. every_map (λ v (f, o). follows_limits S f) (labelled output c), every_map (λ v (f, o). follows_limits S f) silent)

pub judged_on : JudgedOn
judged_on ps S x judged stored small =
    let (labelled, silent) = ends ps S.next x judged stored in
    (λ output c. every_map (λ v (f, o). follows_goes S f small) (labelled output c), every_map (λ v (f, o). follows_goes S f small) silent)

pub opens_on : (ps : List Placed) (k : ℕ) (x : Message) → Every (Judged k) ps → Stored k x → EveryMove (OpensTo k) k ps
opens_on ps k x judged stored =
    let (labelled, silent) = ends ps k x judged stored in
    (λ output c. every_map (λ v (f, o). o) (labelled output c), every_map (λ v (f, o). o) silent)
