-- The private names of the rests of a step are those of what it leads to ("Steps").
use Rattle.std.specs.Prelude.{Option, Some, None}
use Prim.Native.Nat.{ℕ, ◌+◌, ◌≤◌}
use native.Mathlib.Omega.{arith}
use mathlib.Core.Path.{◌≡◌, refl, sym, ◌∙◌, ap, subst}
use mathlib.Core.Bool.{Bool, true, false, ◌||◌}
use mathlib.Core.List.{List}
use Rattle.meaning.specs.Messages.Term.{Message}
use Rattle.meaning.specs.Bytes.Process.{Prefix, output, input, Process}
use Rattle.meaning.specs.Steps.State.{Bound, ◌▸◌, names, State}
use Rattle.meaning.specs.Judging.Limits.{over_settling}
use Rattle.meaning.proofs.Every.{every_split}
use Rattle.buffer.specs.Buffer.{Within}
use Rattle.buffer.proofs.Laws.Buffer.{unchanged}
use Rattle.state_record.specs.declared.state.State as code
use Rattle.state_head.proofs.Laws.TraversalResult.{names-fit}
use Rattle.step_located.specs.Located.{LocatedOffer, prefixed}
use Rattle.step_located.specs.CopyStep.{Pair, CopyStep}
use Rattle.step_located.proofs.Laws.Copies.{split_at}
use Rattle.step_transition.specs.Focus.{Focus, offers_of}
use Rattle.step_transition.specs.Moves.{Move, alone, inside, between}
use Rattle.step_transition.specs.Outcome.{bound_after, last_of, sent_by, outcome}
use Rattle.state_layout.specs.Loaded.{IsRunOf}
use Rattle.state_head.specs.Count.{counted_of, count_of}
use Rattle.step_transition.specs.CopyOffers.{copy_step_with}
use Rattle.step_transition.specs.Step.{actor, step_of}
use Rattle.step_transition.specs.WithinLimits.{WithinLimits}
use Rattle.step_transition.specs.Moving.{carried, Moving, Leading}
use Rattle.successor_continuation.specs.Rests.{last_for, rests_of, only_of, then_of, Settles, SettlesSilent, CountsActor, CountsTaker}
use Rattle.step_label.specs.declared.step.Step as step
use Rattle.step_label.specs.declared.step.Actor.{Actor}
use Rattle.step_label.specs.declared.step.Label.{Label}
use Rattle.step_label.specs.declared.step.Label.TheVariants.{Output, Input, Silent}
use Rattle.successor_continuation.specs.declared.names.Rests.{Rests}
use Rattle.step_transition.proofs.Laws.MovesFocuses as focuses
use Rattle.step_transition.proofs.Laws.Threads.{thread_kept}
use Rattle.successor_continuation.proofs.Laws.RestsMoves.{Among, BindsNothing, Shared, Joined, Stood, moves_stood}
use Rattle.successor_continuation.proofs.Laws.RestsThread.{thread_at, later_few, offer_acts}

-- The answers for one rest and for two.
only_counted : (b : Bool) (n : ℕ) → only_of (counted_of b n) ≡ rests_of b 0 n
only_counted true n = refl
only_counted false n = refl

then_counted : (b : Bool) (last n : ℕ) → then_of last (counted_of b n) ≡ rests_of b last n
then_counted true last n = refl
then_counted false last n = refl

over_first : (b d : Bool) (last next n : ℕ) → counted_of b last ≡ None → None ≡ rests_of (b || d) n next
over_first true d last next n e = refl
over_first false d last next n e = absurd (let z : ◌≡◌ {A = ℕ} 0 1 = cc in omega arith)

last_counted : (b : Bool) (n last : ℕ) → counted_of b n ≡ Some last → n ≡ last
last_counted true n last e = absurd (let z : ◌≡◌ {A = ℕ} 0 1 = cc in omega arith)
last_counted false n last e = cc

then_both : (b : Bool) (n last : ℕ) (R : Process) (τ : Bound) → counted_of b n ≡ Some last
    → then_of last (count_of R τ last) ≡ rests_of (b || over_settling R τ n) n (names R τ n)
then_both true n last R τ e = absurd (let z : ◌≡◌ {A = ℕ} 0 1 = cc in omega arith)
then_both false n last R τ e =
    subst (λ i. then_of last (count_of R τ last) ≡ rests_of (over_settling R τ i) i (names R τ i)) (sym (last_counted false n last e))
    (then_counted (over_settling R τ last) last (names R τ last))

-- The rest of a single thread takes the message that goes, if it takes one.
pub bound_carried : (x : Message) (p : Focus) (a : LocatedOffer) → bound_after (carried x (alone p a)) a ≡ bound_after x a
unfolding carried
bound_carried x p a = of a.prefix
  where
    of : (q : Prefix) → bound_after (carried x (alone p (prefixed a q))) (prefixed a q) ≡ bound_after x (prefixed a q)
    of (output C M) = refl
    of (input C) = refl

-- Who acts in a step of a single thread.
pub sender_alone : (start : ℕ) (p : Focus) (a : LocatedOffer) → (step_of start (alone p a)).label ≡ Output
    → (step_of start (alone p a)).sender ≡ actor start p a
unfolding step_of
sender_alone start p a = of a.prefix
  where
    of : (q : Prefix) → (step_of start (alone p (prefixed a q))).label ≡ Output
        → (step_of start (alone p (prefixed a q))).sender ≡ actor start p (prefixed a q)
    of (output C M) e = refl
    of (input C) e = absurd (let z : ◌≡◌ {A = ℕ} 0 1 = cc in omega arith)

pub taker_alone : (start : ℕ) (p : Focus) (a : LocatedOffer) → (step_of start (alone p a)).label ≡ Input
    → (step_of start (alone p a)).taker ≡ actor start p a
unfolding step_of
taker_alone start p a = of a.prefix
  where
    of : (q : Prefix) → (step_of start (alone p (prefixed a q))).label ≡ Input
        → (step_of start (alone p (prefixed a q))).taker ≡ actor start p (prefixed a q)
    of (output C M) e = absurd (let z : ◌≡◌ {A = ℕ} 0 1 = cc in omega arith)
    of (input C) e = refl

pub not_silent : (start : ℕ) (p : Focus) (a : LocatedOffer) → (step_of start (alone p a)).label ≡ Silent → ⊥
unfolding step_of
not_silent start p a = of a.prefix
  where
    of : (q : Prefix) → (step_of start (alone p (prefixed a q))).label ≡ Silent → ⊥
    of (output C M) e = let z : ◌≡◌ {A = ℕ} 0 1 = cc in omega arith
    of (input C) e = let z : ◌≡◌ {A = ℕ} 0 1 = cc in omega arith

-- The threads and the offers of a step that is one of the state.
pub step_stood : {s out message : List ℕ} {st : code.State} {S : State} {h : WithinLimits s out st S} {v : step.Step} {x : Message} (w : Move)
    → Moving s out st S h v x w message → Stood st.names h.at.placed w
step_stood {st = st} {h = h} {v = v} w mv =
    subst (λ (k : ℕ). Stood k h.at.placed w) (sym h.at.names)
    (every_split (split_at mv.earlier mv.listed) (moves_stood _ h.at.placed v.label mv.channel)).1

-- The rest of the sender of a silent step is counted, and two bytes hold the private names that follow it.
record Sent (k : ℕ) (u : Pair) (c : Option ℕ) : Type 0 where
  counts : c ≡ count_of u.sender.rest u.sender.bound u.taker.next
  small : last_of u ≤ 28664
  next : u.sender.next ≤ 28664
  later : k ≤ u.sender.next

-- And that of the taker after it, wherever the traversals for the sender have written.
record Both (s message m out : List ℕ) (st : code.State) (v : step.Step) (u : Pair) (c : Option ℕ) : Type 0 where
  sent : Sent st.names u c
  taken : {m₁ : List ℕ} {low high last : ℕ} {d : Option ℕ} → Within low high m m₁ → CountsTaker s st v last message m₁ out d → last ≤ 28664
      → d ≡ count_of u.taker.rest (u.taker.bound ▸ sent_by u) last

module _ {s out m message : List ℕ} {st : code.State} {S : State} (h : WithinLimits s out st S) (l : Leading s st S m out) (x : Message) where
  -- A step of a single thread.
  alone_settled : {v : Actor} {c : Option ℕ} (p : Focus) (a : LocatedOffer) → Stood st.names h.at.placed (alone p a)
      → v ≡ actor st.start p a → IsRunOf message (carried x (alone p a)) → CountsActor s st v st.names v.next message m out c
      → let o = outcome h.at.placed S.next x (alone p a) in only_of c ≡ rests_of o.large (last_for (alone p a)) o.next
  unfolding outcome last_for
  alone_settled {v} {c} p a (stands, among) e i count =
      let t = thread_at h l p stands in
      let next : v.next ≡ a.next = ap (λ (w : Actor). w.next) e in
      let small = (offer_acts p.thread a among).small in
      let few = later_few p.thread t in
      let n : v.next ≤ 28664 = omega (arith, next, small, few, t.few) in
      let same = count.exact p a (carried x (alone p a)) among.before among.after t i n among.listed e in
      let σ = bound_after x a in
      ap only_of (same ∙ ap (λ (ρ : Bound). count_of a.rest ρ v.next) (bound_carried x p a) ∙ ap (count_of a.rest σ) next)
      ∙ only_counted (over_settling a.rest σ a.next) (names a.rest σ a.next)

  -- The sender of a silent step.
  sender_counted : {v : Actor} {c : Option ℕ} {n : ℕ} (p : Focus) (u : Pair) → focuses.Stands h.at.placed p
      → Among (offers_of p.thread st.names) u.sender → BindsNothing u.sender → v ≡ actor st.start p u.sender
      → n ≡ u.taker.next → u.taker.next ≤ u.sender.next + 4096 → (y : Message) → IsRunOf message y
      → CountsActor s st v st.names n message m out c → Sent st.names u c
  sender_counted {v} {c} {n} p u stands among sends e next low y i count =
      let a = u.sender in
      let t = thread_at h l p stands in
      let acts = offer_acts p.thread a among in
      let few = later_few p.thread t in
      let same = count.exact p a y among.before among.after t i (omega (arith, next, low, acts.small, few, t.few)) among.listed e in
      record {
        counts = same ∙ ap (λ (ρ : Bound). count_of a.rest ρ n) (sends.bound y) ∙ ap (count_of a.rest a.bound) next;
        small = omega (arith, names-fit a.rest a.bound u.taker.next, low, acts.small, few, t.few);
        next = omega (arith, acts.small, few, t.few);
        later = acts.later;
      }

  -- The taker of a silent step: in another thread, or in the copies of the same one.
  between_counted : {v : step.Step} {c : Option ℕ} (p q : Focus) (u : Pair) → Shared st.names h.at.placed p q u
      → v ≡ step_of st.start (between p q u) → IsRunOf message (sent_by u)
      → CountsActor s st v.sender st.names v.taker.next message m out c → Both s message m out st v u c
  unfolding step_of
  between_counted {v} {c} p q u sh e i count =
      let t = thread_at h l q sh.taking in
      let near : u.taker.next ≤ u.sender.next + 4096 =
      omega (arith, (offer_acts q.thread u.taker sh.taker).small, later_few q.thread t) in
      let sent = sender_counted p u sh.sending sh.sender sh.sends (ap (λ (w : step.Step). w.sender) e)
      (ap (λ (w : step.Step). w.taker.next) e) near (sent_by u) i count in
      record {
        sent = sent;
        taken = λ {last = last} a taking small.
            taking.between p q u (sent_by u) sh.taker.before sh.taker.after (thread_kept q.thread (unchanged {high = 0}) a t) i sent.later
            sent.next small sh.taker.listed e
            ∙ ap (λ (ρ : Bound). count_of u.taker.rest ρ last) (sh.takes.bound (sent_by u));
      }

  inside_counted : {v : step.Step} {c : Option ℕ} (p : Focus) (j : CopyStep) → Joined st.names h.at.placed p j
      → v ≡ step_of st.start (inside p j) → IsRunOf message (sent_by j.pair)
      → CountsActor s st v.sender st.names v.taker.next message m out c → Both s message m out st v j.pair c
  unfolding step_of
  inside_counted {v} {c} p j jo e i count =
      let u = j.pair in
      let t = thread_at h l p jo.stands in
      let near : u.taker.next ≤ u.sender.next + 4096 = omega (arith, jo.small.small, jo.few, later_few p.thread t) in
      let sent = sender_counted p u jo.stands jo.sender jo.sends (ap (λ (w : step.Step). w.sender) e)
      (ap (λ (w : step.Step). w.taker.next) e) near (sent_by u) i count in
      let f : v ≡ step_of st.start (inside p (copy_step_with jo.arity jo.copy u)) =
      e ∙ ap (λ (k : CopyStep). step_of st.start (inside p k)) jo.same in
      record {
        sent = sent;
        taken = λ {last = last} a taking small.
            taking.inside p jo.arity jo.copy u (sent_by u) jo.listed.before jo.listed.after jo.taker.before jo.taker.after
            (thread_kept p.thread (unchanged {high = 0}) a t) i jo.listed.listed jo.low
            (record { arity = jo.high; after = λ o. jo.later; small = sent.next }) small jo.taker.listed f
            ∙ ap (λ (ρ : Bound). count_of u.taker.rest ρ last) (jo.takes.bound (sent_by u));
      }

-- The names of both rests, or that one meets a limit.
abbrev both_of : Pair → Option Rests
both_of u =
    let τ = u.taker.bound ▸ sent_by u in
    let n = last_of u in
    rests_of (over_settling u.sender.rest u.sender.bound u.taker.next || over_settling u.taker.rest τ n) n
    (names u.taker.rest τ n)

module _ {s message m out : List ℕ} {st : code.State} {v : step.Step} {c : Option ℕ} where
  both_over : c ≡ None → (u : Pair) → Both s message m out st v u c → None ≡ both_of u
  both_over e u b =
      over_first (over_settling u.sender.rest u.sender.bound u.taker.next) _ (last_of u) _ (last_of u) (sym b.sent.counts ∙ e)

  both_names : {m₁ : List ℕ} {low high last : ℕ} {d : Option ℕ} → c ≡ Some last → Within low high m m₁
      → CountsTaker s st v last message m₁ out d → (u : Pair) → Both s message m out st v u c
      → then_of last d ≡ both_of u
  both_names {last = last} e a taking u b =
      let large = over_settling u.sender.rest u.sender.bound u.taker.next in
      let f : counted_of large (last_of u) ≡ Some last = sym b.sent.counts ∙ e in
      let small : last ≤ 28664 = omega (arith, last_counted large (last_of u) last f, b.sent.small) in
      ap (then_of last) (b.taken a taking small) ∙ then_both large (last_of u) last u.taker.rest (u.taker.bound ▸ sent_by u) f

  -- Whatever silent step it is.
  both_settled : {r : Option Rests} → CountsActor s st v.sender st.names v.taker.next message m out c
      → ((u : Pair) → Both s message m out st v u c → r ≡ both_of u) → SettlesSilent s st v message m out r
  unfolding outcome last_for step_of carried
  both_settled {r} count all = record { exact = λ e. record { exact = λ S h x w mv l. of S h x l e w mv.same (step_stood w mv) mv.labelled } }
    where
      of : (S : State) (h : WithinLimits s out st S) (x : Message) → Leading s st S m out → v.label ≡ Silent → (w : Move)
          → v ≡ step_of st.start w → Stood st.names h.at.placed w → IsRunOf message (carried x w)
          → let o = outcome h.at.placed S.next x w in r ≡ rests_of o.large (last_for w) o.next
      of S h x l e (alone p a) f stood i = absurd (not_silent st.start p a (sym (ap (λ (w : step.Step). w.label) f) ∙ e))
      of S h x l e (inside p j) f stood i = all j.pair (inside_counted h l x p j stood f i count)
      of S h x l e (between p q u) f stood i = all u (between_counted h l x p q u stood f i count)

-- The laws of the functions.
module _ {s message m out : List ℕ} {st : code.State} {v : step.Step} {c : Option ℕ} where
  pub silent_over : CountsActor s st v.sender st.names v.taker.next message m out c → c ≡ None
      → SettlesSilent s st v message m out None
  silent_over count e = both_settled count (both_over e)

  pub silent_both : {m₁ : List ℕ} {low high last : ℕ} {d : Option ℕ} {r : Option Rests}
      → CountsActor s st v.sender st.names v.taker.next message m out c → c ≡ Some last → Within low high m m₁
      → CountsTaker s st v last message m₁ out d → r ≡ then_of last d → SettlesSilent s st v message m out r
  silent_both count e a taking f = both_settled count (λ u b. f ∙ both_names e a taking u b)

  -- A step of one thread, by which of the two acts with its label.
  settles_alone : {r : Option Rests} (label : Label) (who : step.Step → Actor) → ¬ (Silent ≡ label)
      → ((p : Focus) (a : LocatedOffer) → (step_of st.start (alone p a)).label ≡ label → who (step_of st.start (alone p a)) ≡ actor st.start p a)
      → v.label ≡ label → CountsActor s st (who v) st.names (who v).next message m out c → r ≡ only_of c → Settles s st v message m out r
  unfolding step_of
  settles_alone {r} label who loud acts e count g =
      record { exact = λ S h x w mv l. of S h x l w mv.same (step_stood w mv) mv.labelled }
    where
      of : (S : State) (h : WithinLimits s out st S) (x : Message) → Leading s st S m out → (w : Move)
          → v ≡ step_of st.start w → Stood st.names h.at.placed w → IsRunOf message (carried x w)
          → let o = outcome h.at.placed S.next x w in r ≡ rests_of o.large (last_for w) o.next
      of S h x l (alone p a) f stood i =
          g ∙ alone_settled h l x p a stood (ap who f ∙ acts p a (sym (ap (λ (w : step.Step). w.label) f) ∙ e)) i count
      of S h x l (inside p j) f stood i = absurd (loud (sym (ap (λ (w : step.Step). w.label) f) ∙ e))
      of S h x l (between p q u) f stood i = absurd (loud (sym (ap (λ (w : step.Step). w.label) f) ∙ e))

  pub settles_output : {r : Option Rests} → v.label ≡ Output → CountsActor s st v.sender st.names v.sender.next message m out c
      → r ≡ only_of c → Settles s st v message m out r
  settles_output = settles_alone Output (λ w. w.sender) (λ e. let z : ◌≡◌ {A = ℕ} 0 1 = cc in omega arith) (sender_alone st.start)

  pub settles_input : {r : Option Rests} → v.label ≡ Input → CountsActor s st v.taker st.names v.taker.next message m out c
      → r ≡ only_of c → Settles s st v message m out r
  settles_input = settles_alone Input (λ w. w.taker) (λ e. let z : ◌≡◌ {A = ℕ} 0 1 = cc in omega arith) (taker_alone st.start)

pub settles_silent : {s message m out : List ℕ} {st : code.State} {v : step.Step} {r : Option Rests} → v.label ≡ Silent
    → SettlesSilent s st v message m out r → Settles s st v message m out r
settles_silent e h = h.exact e

pub ruleset silents = (silent_over, silent_both)

pub ruleset settlings = (settles_output, settles_input, settles_silent)
