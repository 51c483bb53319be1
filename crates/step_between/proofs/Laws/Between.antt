-- The next silent step of two threads ("Steps").
use Rattle.std.specs.Prelude.{Option, Some, None}
use Prim.Native.Nat.{ℕ, ◌+◌, ◌≤◌, ◌<◌}
use native.Mathlib.Omega.{arith}
use native.Mathlib.Nat.{le_refl}
use mathlib.Core.Path.{◌≡◌, refl, sym, ◌∙◌, ap, subst}
use mathlib.Core.Bool.{true, false}
use mathlib.Core.List.{List, [], ◌∷◌, ◌++◌, map}
use lib.Dec.{ltb}
use lib.ListN.{length}
use borrow.Author.Tests.{ltb-true, lt-ltb}
use Rattle.meaning.specs.Messages.Term.{leaf, public}
use Rattle.meaning.specs.Steps.State.{worked}
use Rattle.meaning.specs.Places.{Every}
use Rattle.meaning.proofs.Every.{every_map}
use Rattle.message_bytes.specs.Encoding.{encode_message}
use Rattle.state_record.specs.Record.{Placed, encode_records}
use Rattle.step_located.specs.CopyStep.{message_of}
use Rattle.step_located.proofs.Laws.Everywhere.{every_first}
use Rattle.step_transition.specs.Focus.{focuses_from, record_at, offers_of}
use Rattle.step_transition.specs.Threads.{Threads}
use Rattle.state_layout.specs.Loaded.{IsRunOf}
use Rattle.step_offer.specs.Seek.{Sight, ShowsSight, Seeks}
use Rattle.step_transition.specs.CopyOffers.{outputs, inputs, channel_of}
use Rattle.step_transition.specs.CopyMoves.{Roomy}
use Rattle.step_transition.specs.Step.{actor, step_of}
use Rattle.step_label.specs.declared.step.Actor.{Actor}
use Rattle.step_label.specs.declared.step.Step.{Step}
use Rattle.step_between.specs.Buffered.{Buffered, Answered}
use Rattle.step_between.specs.Between.{Party, parties_from, senders_from, offered_to, meeting_of, takers_from, sight_of, Ahead, IsAhead, NextSender, Takes}
use Rattle.step_offer.specs.declared.seek.Sighting.{Sighting}
use Rattle.step_label.specs.declared.step.Label.TheVariants.{Silent}
use Rattle.step_transition.proofs.Laws.Records.{whole}
use Rattle.step_transition.proofs.Laws.Threads.{threads_from}
use Rattle.step_between.proofs.Laws.BetweenLists.{parties_all}
use Rattle.step_between.proofs.Laws.BetweenOffers.{Sending, sending_all}
use Rattle.step_between.proofs.Laws.BetweenSought.{Seated, spots_seated, first-among, nothing_skipped, sender_skipped}
use Rattle.state_layout.proofs.Laws.Argument.{argument_zero}
use Rattle.index_process.specs.Index.{ShortModel}

false_true : false ≡ true → ⊥
false_true e = let z : ◌≡◌ {A = ℕ} 0 1 = cc in omega arith

-- Whether a sender follows.
module _ {at x to long place mark : ℕ} where
  refused : (Ahead at x to long place mark → ⊥) → IsAhead at x to long place mark false
  refused f = record { sound = λ e. absurd (false_true e); complete = λ a. absurd (f a) }

  pub follows_none : mark ≡ 0 → IsAhead at x to long place mark false
  follows_none e = refused (λ a. omega (arith, a.some))

  pub follows_long : long < mark → IsAhead at x to long place mark false
  follows_long l = refused (λ a. omega (arith, a.within))

  pub follows_beyond : to ≤ place → IsAhead at x to long place mark false
  follows_beyond l = refused (λ a. omega (arith, a.below))

  pub follows_same : (mark ≡ 0 → ⊥) → mark ≤ long → place < to → place ≡ at → IsAhead at x to long place mark (ltb x mark)
  follows_same n l b e = record {
    sound = λ t. record { some = omega (arith, n); within = l; below = b; later = omega arith; after = λ _. ltb-true x mark t };
    complete = λ a. lt-ltb x mark (a.after e);
  }

  pub follows_other : (mark ≡ 0 → ⊥) → mark ≤ long → place < to → (place ≡ at → ⊥) → IsAhead at x to long place mark (ltb at place)
  follows_other n l b d = record {
    sound = λ t. let h = ltb-true at place t in
        record { some = omega (arith, n); within = l; below = b; later = omega (arith, h); after = λ e. absurd (d e) };
    complete = λ a. lt-ltb at place (omega (arith, a.later, d));
  }

pub ruleset followings = (follows_none, follows_long, follows_beyond, follows_same, follows_other)

-- The label of senders does not matter, but it is the run of a message.
pub sends : {s argument : List ℕ} {at k to : ℕ} {m : List ℕ} {x : ℕ} {out : List ℕ} {r : Sighting} {after : List ℕ}
    → argument ≡ 16 ∷ 0 ∷ [] → Seeks s argument at to m (outputs x) to k out r after → NextSender s at k to m x out r after
unfolding senders_from
sends {s} {argument} {at} {k} {to} {m} {x} {out} {r} {after} e v = record {
  exact = λ start ls ts h room here.
      let there : Threads s out (start + length (encode_records ls)) k ts to = subst (λ (n : ℕ). Threads s out n k ts to) here h in
      subst (λ (i : Sight). ShowsSight after r i)
      (first-among (outputs 0) (leaf (public 0)) start k to (λ p. offers_of p.thread k) x ls ts at here
      (every_map (λ p g. nothing_skipped p g) (spots_seated ls ts there)))
      (v.exact ts (leaf (public 0)) h (le_refl k) refl (argument_zero e) room.short room.wide room.room (omega (arith, room.few)));
}

-- The first of senders: its thread is one of the list, and it meets no limit.
pub record Known (start k to long : ℕ) (ps : List Placed) (w : Party) : Type 0 where
  pub parts : ps ≡ whole w.focus
  pub below : record_at start w.focus < to
  pub sending : Sending k long w.offer

pub sender_known : {s out : List ℕ} {start k to : ℕ} (x : ℕ) (ps ls ts : List Placed) {w : Party} {others : List Party}
    → Threads s out start k ps to → ps ≡ ls ++ ts → ShortModel s → k ≤ 128 → senders_from k x (focuses_from ls ts) ≡ w ∷ others
    → Known start k to (length s) ps w
unfolding senders_from
sender_known {s} {out} {start} {k} {to} x ps ls ts {w} {others} h split short few e =
    let there : Threads s out start k (ls ++ ts) to = subst (λ us. Threads s out start k us to) split h in
    let seated : Every (Seated s start k to (ls ++ ts)) (focuses_from ls ts) = spots_seated ls ts (threads_from ls ts there) in
    let all : Every (Known start k to (length s) (ls ++ ts)) (senders_from k x (focuses_from ls ts)) =
    parties_all (outputs 0) (leaf (public 0)) (λ p. offers_of p.thread k)
    (λ n p g. every_map (λ a sent t. record { parts = g.parts; below = g.below; sending = sent t })
    (sending_all n p.thread g.standing g.judged short few))
    x (focuses_from ls ts) seated in
    subst (λ us. Known start k to (length s) us w) (sym split)
    (every_first (subst (λ us. Every (Known start k to (length s) (ls ++ ts)) us) e all))

-- The answer where a taker is found.
abbrev found : (sender taker : Actor) → (size : ℕ) → Option Step
found sender taker size = Some (record { label = Silent; arity = 0; copy = 0; sender = sender; taker = taker; size = size })

-- The takers of a sender.
abbrev takers_of : (y : ℕ) → Party → List Placed → List Placed → List Party
takers_of y w ls ts = parties_from (inputs y 0) (channel_of w.offer) (offered_to w) (focuses_from ls ts)

-- Where none is seen, there is none.
none_shown : (start : ℕ) (after : List ℕ) (r : Sighting) (w : Party) (us : List Party) (on said : List ℕ) → ShowsSight after r (sight_of start us)
    → r.done.mark ≡ 0 → Answered start on said None (map (meeting_of w) us)
none_shown start after r w [] on said g e = refl
none_shown start after r w (u ∷ us) on said g e = absurd (omega (arith, g.mark))

-- What is seen first among the takers.
module _ {s argument : List ℕ} {to : ℕ} {m : List ℕ} (now : Actor) {taker y : ℕ} {out : List ℕ} {r : Sighting} {after : List ℕ}
    (v : Seeks s argument taker to m (inputs y 0) now.at now.next out r after) where
  taker_sought : (start k : ℕ) (ps ls ts : List Placed) (w : Party) (message : List ℕ) → Threads s out start k ps to
      → Roomy s out m message k to → ps ≡ ls ++ ts → taker ≡ start + length (encode_records ls) → Known start k to (length s) ps w
      → now ≡ actor start w.focus w.offer → IsRunOf argument (channel_of w.offer)
      → ShowsSight after r (sight_of start (takers_of y w ls ts))
  taker_sought start k ps ls ts w message h room split here known acts labelled =
      let there : Threads s out start k (ls ++ ts) to = subst (λ us. Threads s out start k us to) split h in
      let behind = threads_from ls ts there in
      let whole-too : ls ++ ts ≡ whole w.focus = sym split ∙ known.parts in
      let sending = known.sending in
      let at : now.at ≡ record_at start w.focus = ap (λ u. u.at) acts in
      let next : now.next ≡ w.offer.next = ap (λ u. u.next) acts in
      let seen = v.exact ts (channel_of w.offer) (subst (λ (n : ℕ). Threads s out n k ts to) (sym here) behind)
      (rw next sending.later) refl labelled room.short room.wide room.room (rw next sending.small) in
      let same-sight =
      first-among (inputs 0 0) (channel_of w.offer) start w.offer.next (record_at start w.focus) (offered_to w) y ls ts taker here
      (every_map (λ q g. sender_skipped w.offer.next w.focus q whole-too g) (spots_seated ls ts behind)) in
      subst (λ (i : Sight). ShowsSight after r i) same-sight (rw (next, at) at seen)

  -- The first one is met.
  one_shown : (start size : ℕ) (w : Party) (us : List Party) (on said : List ℕ) → ShowsSight after r (sight_of start us) → (r.done.mark ≡ 0 → ⊥)
      → now ≡ actor start w.focus w.offer → size ≡ length (encode_message (worked w.offer.bound (message_of w.offer.prefix)))
      → ((u : Party) → Buffered on said (meeting_of w u))
      → Answered start on said (found now (record { at = r.at; mark = r.done.mark; next = r.done.names }) size) (map (meeting_of w) us)
  unfolding step_of
  one_shown start size w [] on said g n acts long kept = absurd (n g)
  one_shown start size w (u ∷ us) on said g n acts long kept = (rw (acts, g.at, g.mark, g.next, long), kept u)

  pub takes_none : {size : ℕ} → r.done.mark ≡ 0 → Takes s argument to m now taker y out size None
  unfolding takers_from
  takes_none e = record {
    exact = λ start k x ps ls ts ls' ts' w others on said message h room split split' here senders acts labelled long kept.
        let known = sender_known x ps ls ts h split room.short room.few senders in
        none_shown start after r w (takers_of y w ls' ts') on said
        (taker_sought start k ps ls' ts' w message h room split' here known acts labelled) e;
  }

  pub takes_one : {size : ℕ} → (r.done.mark ≡ 0 → ⊥)
      → Takes s argument to m now taker y out size (found now (record { at = r.at; mark = r.done.mark; next = r.done.names }) size)
  unfolding takers_from
  takes_one {size} n = record {
    exact = λ start k x ps ls ts ls' ts' w others on said message h room split split' here senders acts labelled long kept.
        let known = sender_known x ps ls ts h split room.short room.few senders in
        let seen = taker_sought start k ps ls' ts' w message h room split' here known acts labelled in
        one_shown start size w (takers_of y w ls' ts') on said seen n acts long kept;
  }

pub ruleset takings = (takes_none, takes_one)
