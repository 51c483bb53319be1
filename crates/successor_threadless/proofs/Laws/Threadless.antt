-- The state that a step leads to without its threads: what follows the processes that act is settled by itself, and there is room for it
-- ("Judging and its count").
use mathlib.Core.Path.{◌≡◌, refl, sym, ap, ◌∙◌, subst}
use mathlib.Core.Bool.{true, false, not, true≢false}
use mathlib.Core.List.{List}
use Prim.Native.Nat.{ℕ, ◌+◌, ◌-◌, ◌≤◌, ◌<◌}
use native.Mathlib.Omega.{arith}
use native.Mathlib.Nat.{le_refl}
use borrow.Author.Tests.{eqb-false}
use lib.ListN.{length}
use Rattle.meaning.specs.Messages.Term.{Message}
use Rattle.meaning.specs.Steps.State.{State}
use Rattle.buffer.specs.Buffer.{Within}
use Rattle.state_progress.specs.TraversalResult.{Accumulated, going}
use Rattle.state_progress.specs.Represented.{RepresentsResult}
use Rattle.state_progress.specs.Progress.{Extends}
use Rattle.state_record.specs.declared.state.State as code
use Rattle.state_progress.specs.declared.progress.Progress.{Progress}
use Rattle.state_progress.proofs.Laws.Progress.{records_twice}
use Rattle.state_head.specs.News.{news}
use Rattle.state_head.proofs.Laws.TraversalResult.{go_fits}
use Rattle.state_layout.specs.Loaded.{nothing_yet, IsRunOf}
use Rattle.state_progress.specs.Progress.{Begins}
use Rattle.state_layout.proofs.Laws.Loaded.{begins_shown, behind}
use Rattle.state_task.specs.declared.task.CopyAt.{CopyAt}
use Rattle.step_located.specs.Located.{LocatedOffer}
use Rattle.step_located.specs.CopyStep.{Pair, CopyStep}
use Rattle.step_transition.specs.Focus.{Focus, record_at, offers_of}
use Rattle.step_transition.specs.Moves.{Move, alone, inside, between}
use Rattle.step_transition.specs.Outcome.{sent_by}
use Rattle.step_transition.specs.CopyOffers.{takers_at, excluded_by, copy_step_with}
use Rattle.step_transition.specs.Step.{actor, arity_of, step_of}
use Rattle.step_transition.specs.WithinLimits.{WithinLimits}
use Rattle.step_transition.specs.Moving.{carried, Leading}
use Rattle.step_label.specs.declared.step.Step as step
use Rattle.step_label.specs.declared.step.Actor.{Actor}
use Rattle.step_label.specs.declared.step.Label.{Label}
use Rattle.step_label.specs.declared.step.Label.TheVariants.{Output, Input, Silent}
use Rattle.step_transition.proofs.Laws.CopyMoves.{mode_of}
use Rattle.step_transition.proofs.Laws.MovesFocuses.{Stands}
use Rattle.step_transition.proofs.Laws.Threads.{thread_kept}
use Rattle.successor_continuation.specs.Rests.{step_copies}
use Rattle.successor_continuation.specs.Settled.{SettlesOffer, SettlesOfferIn}
use Rattle.successor_continuation.proofs.Laws.Rests.{record_below}
use Rattle.successor_continuation.proofs.Laws.RestsMoves.{Among, Stood}
use Rattle.successor_continuation.proofs.Laws.RestsThread.{thread_at, later_few, offer_acts}
use Rattle.successor_continuation.proofs.Laws.RestsSettled.{sender_alone, taker_alone, not_silent, step_stood}
use Rattle.successor_rebuild.proofs.Laws.RebuiltMove.{some_arity}
use Rattle.successor_threadless.specs.Threadless.{rest_from, settled_rests, FollowsOffer, FollowsIn, Settles, SettlesBoth}
use Rattle.successor_rebuild.proofs.Laws.Formed.{then_shown}

-- What follows one offer.
module _ {s message m out : List ℕ} {st : code.State} {v : Actor} {k : ℕ} {now : Progress} where
  pub follows_not : not now.going ≡ true → FollowsOffer s st v k message m out now now out
  follows_not off = record {
    stopped = λ e. (refl, refl);
    exact = λ p a y g before behind t i later small few listed e d. absurd (true≢false (sym off ∙ ap not d.on));
  }

  module _ {r : Progress} (on : not now.going ≡ false) where
    pub follows_none : st.end < 4 → FollowsOffer s st v k message m out now r out
    follows_none l = record {
      stopped = λ off. absurd (true≢false (ap not (sym off) ∙ on));
      exact = λ p a y g before behind t i later small few listed e d. absurd (omega (arith, record_below p.thread t));
    }

    pub follows_short : st.end - 4 < v.at → FollowsOffer s st v k message m out now r out
    follows_short l = record {
      stopped = λ off. absurd (true≢false (ap not (sym off) ∙ on));
      exact = λ p a y g before behind t i later small few listed e d.
          absurd (omega (arith, record_below p.thread t, ap (λ (u : Actor). u.at) e));
    }

    pub follows_offer : {after : List ℕ} → SettlesOffer s message v.at k m v.mark out now r after
        → FollowsOffer s st v k message m out now r after
    follows_offer settles = record {
      stopped = λ off. absurd (true≢false (ap not (sym off) ∙ on));
      exact = λ p a y g before behind t i later small few listed e d.
          let at : v.at ≡ record_at st.start p = ap (λ (u : Actor). u.at) e in
          (rw at at settles).exact p.thread y before behind a g t i later small few listed (ap (λ (u : Actor). u.mark) e) d;
    }

pub ruleset followings = (follows_not, follows_none, follows_short, follows_offer)

-- What follows a taker in the copies of one thread.
module _ {s message m out : List ℕ} {st : code.State} {v : step.Step} {now : Progress} where
  pub inside_not : not now.going ≡ true → FollowsIn s st v message m out now now out
  inside_not off = record {
    stopped = λ e. (refl, refl);
    exact = λ p arity w u y g pre post before behind t i listed low later few placed e d. absurd (true≢false (sym off ∙ ap not d.on));
  }

  module _ {r : Progress} (on : not now.going ≡ false) where
    pub inside_none : st.end < 4 → FollowsIn s st v message m out now r out
    inside_none l = record {
      stopped = λ off. absurd (true≢false (ap not (sym off) ∙ on));
      exact = λ p arity w u y g pre post before behind t i listed low later few placed e d. absurd (omega (arith, record_below p.thread t));
    }

    pub inside_short : st.end - 4 < v.taker.at → FollowsIn s st v message m out now r out
    unfolding step_of
    inside_short l = record {
      stopped = λ off. absurd (true≢false (ap not (sym off) ∙ on));
      exact = λ p arity w u y g pre post before behind t i listed low later few placed e d.
          absurd (omega (arith, record_below p.thread t, ap (λ (k : step.Step). k.taker.at) e));
    }

    pub inside_offer : {c : CopyAt} {after : List ℕ} → c ≡ step_copies v
        → SettlesOfferIn s message v.taker.at st.names m c v.taker.mark out now r after → FollowsIn s st v message m out now r after
    unfolding step_of
    inside_offer {c} {after} own settles = record {
      stopped = λ off. absurd (true≢false (ap not (sym off) ∙ on));
      exact = λ p arity w u y g pre post before behind t i listed low later few placed e d.
          let at : v.taker.at ≡ record_at st.start p = ap (λ (k : step.Step). k.taker.at) e in
          let same : c ≡ takers_at arity w u.sender =
          own ∙ ap step_copies e
          ∙ ap (λ (i : ℕ). record { place = w.place + 1; arity = i; second = u.sender.next }) (mode_of arity w u low later.arity) in
          let there = subst (λ (i : CopyAt). SettlesOfferIn s message v.taker.at st.names m i v.taker.mark out now r after) same settles in
          (rw at at there).exact p.thread y pre post w before behind u.taker g t i few listed refl low later (excluded_by arity u.sender) placed
          (ap (λ (k : step.Step). k.taker.mark) e) d;
    }

pub ruleset followings_in = (inside_not, inside_none, inside_short, inside_offer)

-- The private names after what follows an offer.
names_behind : (a : LocatedOffer) (y : Message) (n : ℕ) (g : Accumulated) → rest_from y a (nothing_yet n) ≡ going g → g.names ≤ n + news a.rest
names_behind a y n g e = omega (arith, go_fits a.rest _ y _ _ (nothing_yet n) g e)

-- What follows the processes of a step: of one thread, by which of the two acts with its label.
module _ {s message m out after : List ℕ} {st : code.State} {v : step.Step} {now r : Progress} where
  settles_one : (label : Label) (who : step.Step → Actor) → ¬ (Silent ≡ label)
      → ((p : Focus) (a : LocatedOffer) → (step_of st.start (alone p a)).label ≡ label → who (step_of st.start (alone p a)) ≡ actor st.start p a)
      → v.label ≡ label → Begins st.end (who v).next now → FollowsOffer s st (who v) st.names message m out now r after
      → Settles s st v message m out r after
  unfolding step_of settled_rests
  settles_one label who loud acts e begins follows =
      record { exact = λ S h x w mv l. of S h x l w mv.same (step_stood w mv) mv.labelled }
    where
      of : (S : State) (h : WithinLimits s out st S) (x : Message) → Leading s st S m out → (w : Move) → v ≡ step_of st.start w
          → Stood st.names h.at.placed w → IsRunOf message (carried x w) → RepresentsResult s after r (settled_rests (carried x w) w)
      of S h x l (alone p a) f (stands, among) i =
          let t = thread_at h l p stands in
          let own : who v ≡ actor st.start p a = ap who f ∙ acts p a (sym (ap (λ (w : step.Step). w.label) f) ∙ e) in
          let next : (who v).next ≡ a.next = ap (λ (u : Actor). u.next) own in
          let small = (offer_acts p.thread a among).small in
          let few = later_few p.thread t in
          let shown = begins_shown {s = s} {out = out} now (rw next at begins) (omega (arith, l.room)) in
          follows.exact p a (carried x (alone p a)) (nothing_yet a.next) among.before among.after t i (le_refl st.names)
          (omega (arith, t.few)) (omega (arith, small, few, t.few)) among.listed own shown
      of S h x l (inside p j) f stood i = absurd (loud (sym (ap (λ (w : step.Step). w.label) f) ∙ e))
      of S h x l (between p q u) f stood i = absurd (loud (sym (ap (λ (w : step.Step). w.label) f) ∙ e))

  pub settles_output : v.label ≡ Output → Begins st.end v.sender.next now → FollowsOffer s st v.sender st.names message m out now r after
      → Settles s st v message m out r after
  settles_output = settles_one Output (λ w. w.sender) (λ e. let z : ◌≡◌ {A = ℕ} 0 1 = cc in omega arith) (sender_alone st.start)

  pub settles_input : v.label ≡ Input → Begins st.end v.taker.next now → FollowsOffer s st v.taker st.names message m out now r after
      → Settles s st v message m out r after
  settles_input = settles_one Input (λ w. w.taker) (λ e. let z : ◌≡◌ {A = ℕ} 0 1 = cc in omega arith) (taker_alone st.start)

pub settles_silent : {s message m out after : List ℕ} {st : code.State} {v : step.Step} {r : Progress} → v.label ≡ Silent
    → SettlesBoth s st v message m out r after → Settles s st v message m out r after
settles_silent e h = h.exact e

pub ruleset settlings = (settles_output, settles_input, settles_silent)

-- What follows the sender of a silent step, and the private names after it.
record Sent (s out : List ℕ) (st : code.State) (r : Progress) (u : Pair) : Type 0 where
  shown : RepresentsResult s out r (rest_from (sent_by u) u.sender (nothing_yet u.taker.next))
  few : (g : Accumulated) → rest_from (sent_by u) u.sender (nothing_yet u.taker.next) ≡ going g → g.names ≤ 28664
  next : u.sender.next ≤ 28664
  later : st.names ≤ u.sender.next

sender_follows : {s message m out out₁ : List ℕ} {st : code.State} {S : State} {a : Actor} {k : ℕ} {now sent : Progress} (h : WithinLimits s out st S)
    → Leading s st S m out → Begins st.end k now → FollowsOffer s st a st.names message m out now sent out₁ → (p : Focus) (u : Pair)
    → Stands h.at.placed p → Among (offers_of p.thread st.names) u.sender → a ≡ actor st.start p u.sender → k ≡ u.taker.next
    → u.taker.next ≤ u.sender.next + 4096 → IsRunOf message (sent_by u) → Sent s out₁ st sent u
sender_follows {s} {out = out} {st = st} {now = now} h l begins first p u stands among own next near i =
    let t = thread_at h l p stands in
    let acts = offer_acts p.thread u.sender among in
    let small = acts.small in
    let few = later_few p.thread t in
    let y = sent_by u in
    let n = u.taker.next in
    let shown = begins_shown {s = s} {out = out} now (rw next at begins) (omega (arith, l.room)) in
    record {
      shown = first.exact p u.sender y (nothing_yet n) among.before among.after t i (le_refl st.names) (omega (arith, t.few))
          (omega (arith, small, few, t.few)) among.listed own shown;
      few = λ g d. omega (arith, names_behind u.sender y n g d, small, few, t.few);
      next = omega (arith, small, few, t.few);
      later = acts.later;
    }

-- Of two threads, or in the copies of one.
module _ {s message m out m₁ out₁ : List ℕ} {st : code.State} {v : step.Step} {now sent : Progress} {high : ℕ}
    (begins : Begins st.end v.taker.next now) (first : FollowsOffer s st v.sender st.names message m out now sent out₁)
    (wm : Within 0 high m m₁) (wo : Within now.state.end (length out) out out₁) where
  pub both_follow : {after : List ℕ} {r : Progress} → v.arity ≡ 0 → FollowsOffer s st v.taker v.sender.next message m₁ out₁ sent r after
      → SettlesBoth s st v message m out r after
  unfolding step_of settled_rests carried
  both_follow {after} {r} e second =
      record { exact = λ silent. record { exact = λ S h x w mv l. of S h x l w silent mv.same (step_stood w mv) mv.labelled } }
    where
      of : (S : State) (h : WithinLimits s out st S) (x : Message) → Leading s st S m out → (w : Move) → v.label ≡ Silent → v ≡ step_of st.start w
          → Stood st.names h.at.placed w → IsRunOf message (carried x w) → RepresentsResult s after r (settled_rests (carried x w) w)
      of S h x l (alone p a) silent f stood i = absurd (not_silent st.start p a (sym (ap (λ (w : step.Step). w.label) f) ∙ silent))
      of S h x l (inside p j) silent f stood i = absurd (eqb-false (arity_of j) 0 (some_arity j) (sym (ap (λ (w : step.Step). w.arity) f) ∙ e))
      of S h x l (between p q u) silent f sh i =
          let t = thread_at h l q sh.taking in
          let near : u.taker.next ≤ u.sender.next + 4096 =
          omega (arith, (offer_acts q.thread u.taker sh.taker).small, later_few q.thread t) in
          let from : v.sender.next ≡ u.sender.next = ap (λ (w : step.Step). w.sender.next) f in
          let sends = sender_follows h l begins first p u sh.sending sh.sender (ap (λ (w : step.Step). w.sender) f)
          (ap (λ (w : step.Step). w.taker.next) f) near i in
          let kept = thread_kept q.thread (behind begins wo) wm t in
          let y = sent_by u in
          then_shown (rest_from y u.sender (nothing_yet u.taker.next)) (rest_from y u.taker) sends.shown second.stopped
          (λ g d c. (rw from at second).exact q u.taker y g sh.taker.before sh.taker.after kept i sends.later sends.next
          (sends.few g d) sh.taker.listed (ap (λ (w : step.Step). w.taker) f) c)

  pub both_inside : {after : List ℕ} {r : Progress} → (v.arity ≡ 0 → ⊥) → FollowsIn s st v message m₁ out₁ sent r after
      → SettlesBoth s st v message m out r after
  unfolding step_of settled_rests carried
  both_inside {after} {r} some second =
      record { exact = λ silent. record { exact = λ S h x w mv l. of S h x l w silent mv.same (step_stood w mv) mv.labelled } }
    where
      of : (S : State) (h : WithinLimits s out st S) (x : Message) → Leading s st S m out → (w : Move) → v.label ≡ Silent → v ≡ step_of st.start w
          → Stood st.names h.at.placed w → IsRunOf message (carried x w) → RepresentsResult s after r (settled_rests (carried x w) w)
      of S h x l (alone p a) silent f stood i = absurd (not_silent st.start p a (sym (ap (λ (w : step.Step). w.label) f) ∙ silent))
      of S h x l (between p q u) silent f stood i = absurd (some (ap (λ (w : step.Step). w.arity) f))
      of S h x l (inside p j) silent f jo i =
          let u = j.pair in
          let t = thread_at h l p jo.stands in
          let near : u.taker.next ≤ u.sender.next + 4096 = omega (arith, jo.small.small, jo.few, later_few p.thread t) in
          let sends = sender_follows h l begins first p u jo.stands jo.sender (ap (λ (w : step.Step). w.sender) f)
          (ap (λ (w : step.Step). w.taker.next) f) near i in
          let own : v ≡ step_of st.start (inside p (copy_step_with jo.arity jo.copy u)) =
          f ∙ ap (λ (k : CopyStep). step_of st.start (inside p k)) jo.same in
          let kept = thread_kept p.thread (behind begins wo) wm t in
          let y = sent_by u in
          then_shown (rest_from y u.sender (nothing_yet u.taker.next)) (rest_from y u.taker) sends.shown second.stopped
          (λ g d c. second.exact p jo.arity jo.copy u y g jo.listed.before jo.listed.after jo.taker.before jo.taker.after kept i
          jo.listed.listed jo.low (record { arity = jo.high; after = λ o. jo.later; small = sends.next }) (sends.few g d)
          jo.taker.listed own c)

pub ruleset boths = (both_follow, both_inside)

-- Both are settled behind the state.
pub both_behind : {out mid after : List ℕ} {to n high high₁ : ℕ} {now sent : Progress} → Begins to n now → Within now.state.end high out mid
    → Within sent.state.end high₁ mid after → Extends now sent → Within to (length out) out after
both_behind b w v e = behind b (records_twice w v e)
