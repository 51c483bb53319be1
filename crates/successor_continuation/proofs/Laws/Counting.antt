-- The offer at a mark is reached from the record of its thread, and in the copies of a repl thread; the private names of what follows it are
-- counted ("Steps").
use Rattle.std.specs.Prelude.{Option}
use mathlib.Core.Path.{◌≡◌, sym, ◌∙◌}
use mathlib.Core.Bool.{Bool, true, false}
use mathlib.Core.List.{List, ◌∷◌, ◌++◌}
use Prim.Native.Nat.{ℕ, ◌+◌, ◌-◌, ◌*◌, ◌≤◌, ◌<◌}
use native.Mathlib.Omega.{arith}
use native.Mathlib.Nat.{le_refl}
use lib.Dec.{eqb}
use lib.ListN.{length}
use borrow.Author.Tests.{eq-eqb, ne_eqb}
use Rattle.meaning.specs.Messages.Term.{Message}
use Rattle.meaning.specs.Bytes.Process.{Process}
use Rattle.meaning.specs.Bytes.Nesting.{variables}
use Rattle.meaning.specs.Places.{Every, none, ◌also◌}
use Rattle.meaning.specs.Steps.State.{Bound, repl, names, settle}
use Rattle.meaning.specs.Logic.Truth.{any_of}
use Rattle.meaning.specs.Judging.Limits.{over_offers}
use Rattle.meaning.proofs.Every.{every_parts}
use Rattle.meaning.proofs.Test.{neither}
use Rattle.meaning.proofs.Judging.Alike.{copies_alike}
use Rattle.buffer.specs.Buffer.{Within}
use Rattle.buffer.proofs.Laws.Buffer.{unchanged, wider}
use Rattle.message_term.specs.Bound.{encode_bound}
use Rattle.state_record.specs.Place.{ProcessAt}
use Rattle.state_record.specs.Record.{Placed, process_of, bound_of}
use Rattle.state_head.specs.News.{news}
use Rattle.state_head.specs.Count.{count_of}
use Rattle.state_record.specs.Stored.{Loads}
use Rattle.state_task.specs.declared.task.Task.TheVariants.{Count}
use Rattle.state_task.specs.declared.task.CopyAt.{CopyAt}
use Rattle.state_record.specs.declared.stored.Loaded.{Loaded}
use Rattle.state_head.proofs.Laws.Fits.{later_fewer}
use Rattle.state_progress.proofs.Laws.Progress.{to_end, to_end_twice}
use Rattle.state_record.proofs.Laws.Process.{process_kind}
use Rattle.step_located.specs.Located.{LocatedOffer, located_offers}
use Rattle.step_located.specs.Sought.{Opened, offers_except}
use Rattle.step_located.proofs.Laws.Traversal.{Free, free_later}
use Rattle.successor_path.specs.Reach.{offer_site, copy_site, Allowed, Arrives, Reaches, CountsRest}
use Rattle.step_transition.specs.Outcome.{bound_after}
use Rattle.step_transition.specs.CopyOffers.{ThreadAt, copy_offers}
use Rattle.state_layout.specs.Loaded.{IsRunOf}
use Rattle.successor_continuation.specs.Counting.{Comes, Entered, Enters, ComesIn, Counts, CountsIn}
use Rattle.successor_path.specs.declared.reach.Way.{Way}
use Rattle.step_transition.proofs.Laws.LimitsPairs.{but_every}
use Rattle.state_layout.proofs.Laws.Loaded.{bound_short, names_small}
use Rattle.successor_path.proofs.Laws.ReachDown.{offers_down, copies_down}
use Rattle.successor_path.proofs.Laws.ReachKinds.{reaches_here}
use Rattle.successor_path.proofs.Laws.ReachOffers.{reached_offers, arrived_copy, arrived_rest, thread_prepared, thread_allowed}
use Rattle.step_transition.proofs.Laws.Opened.{names_later, opened_all, judged_clear}
use Rattle.index_process.specs.Index.{ShortModel}

-- What holds at every place of a list holds at one that is listed.
pub listed_one : {A : Type 0} {Q : A → Type 0} {xs : List A} (before : List A) (a : A) (after : List A) → xs ≡ before ++ (a ∷ after) → Every Q xs
    → Q a
listed_one {Q = Q} before a after e p = first (every_parts before (rw e at p)).1
  where
    first : Every Q (a ∷ after) → Q a
    first (q also qs) = q

-- Small names fit whatever process stands in a model.
names_fitting : {s : List ℕ} {at left scope next : ℕ} (n : ℕ) (P : Process) → ProcessAt s at left scope P next → ShortModel s → n ≤ 28664
    → n + news P ≤ 32760
names_fitting n P p short h = (names_small Count n P p short (h also none)).own

-- A thread is loaded, and there is room for whatever it may bind or work.
pub thread_room : {s out m : List ℕ} {at k to : ℕ} (t : Placed) → ThreadAt s out m at k to t
    → length (encode_bound (bound_of t.thread)) + 512 * variables (process_of t.thread) + 4606 ≤ length m
thread_room t h = omega (arith, bound_short t h.recorded, h.recorded.standing.process.few, h.wide)

pub thread_arrives : {s m m₁ m₂ out : List ℕ} {at k mark : ℕ} {r : Way} {l : Loaded} → Loads out at l m₁ → Within 0 l.end m m₁
    → Reaches s m₁ (record { at = l.place; left = 64; end = l.end; names = 0; opens = k }) mark r m₂ → Comes s at k m mark out r m₂
thread_arrives {k = k} d w f = record {
  exact = λ t v {j} h later small down e.
      let P = process_of t.thread in
      let ρ = bound_of t.thread in
      let stands = h.recorded.standing in
      let room = thread_room t h in
      let few : length (encode_bound ρ) < 65536 = omega (arith, bound_short t h.recorded, stands.process.few) in
      let (place, next, bound) = d.exact t h.recorded.stands stands.fits few (omega (arith, w.long)) in
      (rw place at f).exact v (record {
        process = P;
        bound = ρ;
        prepared =
            thread_prepared t stands (record { stands = bound; few = omega (arith, stands.process.few); normal = stands.normal })
            (omega (arith, w.long, bound.size));
        allowed =
            thread_allowed t.thread k (copies_alike t.thread j k h.judged.stored later ∙ h.judged.free)
            (names_fitting k P stands.process h.short small);
        down = down;
      }) e;
}

-- The mark is that of the thread itself.
pub thread_itself : {s m m₁ out : List ℕ} {at k mark : ℕ} {l : Loaded} → Loads out at l m₁ → Within 0 l.end m m₁ → l.place + 1 ≡ mark
    → Comes s at k m mark out (record { at = l.place; left = 64; end = l.end; names = 0; opens = k }) m₁
thread_itself d w e = thread_arrives d w (reaches_here e)

pub ruleset arriving = (thread_arrives, thread_itself)

-- What follows an offer that was reached is counted.
behind_counted : {s argument m : List ℕ} {n i : ℕ} {r : Way} {c : Option ℕ} {x : Message} (a : LocatedOffer) → ShortModel s
    → CountsRest s argument r.at r.left m r.end n c → Arrives s m r (offer_site a i) → IsRunOf argument x → n ≤ 28664
    → c ≡ count_of a.rest (bound_after x a) n
behind_counted {n = n} a short f d i small =
    arrived_rest a d i f (names_fitting n (Process.act a.prefix a.rest) d.prepared.process short small)

pub thread_counted : {s argument m m₁ out : List ℕ} {at k mark n : ℕ} {r : Way} {c : Option ℕ} → ShortModel s
    → Comes s at k m mark out r m₁ → CountsRest s argument r.at r.left m₁ r.end n c → Counts s argument at k m mark n out c
thread_counted {k = k} short f g = record {
  exact = λ t x before after a h i later small few listed e.
      let (j, d) = listed_one before a after listed (offers_down (process_of t.thread) t.place (bound_of t.thread) 0 k) in
      behind_counted a short g (f.exact t (offer_site a j) h later small d e) i few;
}

-- What holds at every place of two lists holds at every place of the one that is chosen.
pub chosen : {A : Type 0} {Q : A → Type 0} {xs ys : List A} (b : Bool) → Every Q xs → Every Q ys → Every Q (elim b [ true ↦ xs | false ↦ ys ])
chosen true p q = p
chosen false p q = q

-- The offers of a copy are some of the offers of what is copied.
pub some_offers : (excluded : ℕ) {Q : LocatedOffer → Type 0} (P : Process) (at : ℕ) (ρ : Bound) (n k : ℕ) → Every Q (located_offers P at ρ n k)
    → Every Q (offers_except excluded P at ρ n k)
unfolding offers_except
some_offers excluded P at ρ n k e = chosen (eqb excluded 0) e (but_every (excluded - 1) P at ρ n k e)

same_offers : (excluded : ℕ) (c : CopyAt) (w : Opened) → c.arity ≡ 1
    → copy_offers excluded c w ≡ offers_except excluded w.copied (w.place + 1) w.bound w.opens c.second
unfolding copy_offers
same_offers excluded c w e = rw (ne_eqb c.arity 0 (λ z. omega arith), eq-eqb c.arity 1 e, copy_offers)

second_offers : (excluded : ℕ) (c : CopyAt) (w : Opened) → 1 ≤ c.arity → (c.arity ≡ 1 → ⊥)
    → copy_offers excluded c w ≡ offers_except excluded w.copied (w.place + 1) w.bound c.second (names w.copied w.bound c.second)
unfolding copy_offers
second_offers excluded c w some e = rw (ne_eqb c.arity 0 (λ z. omega arith), ne_eqb c.arity 1 e, copy_offers)

-- The same copy, and the repl thread, meet no limit where copies open at the second name.
module _ {s m : List ℕ} {mark : ℕ} {thread : Way} {c : CopyAt} (short : ShortModel s) (w : Opened) {a : LocatedOffer}
    (e : Entered s thread m c mark w a) where
  same_allowed : Allowed w.copied w.bound w.opens c.second
  same_allowed =
      let (y, h) = arrived_copy w e.arrived in
      let own = names w.copied w.bound w.opens in
      let first : Free w.copied w.bound w.opens own = record { settling = h.settling; offering = h.offering } in
      let free = free_later w.copied own c.second e.stored (le_refl own) (e.later.after e.again) first in
      record {
        own = h.own;
        later = omega (arith, later_fewer w.copied, names_fitting c.second w.copied y.process short e.later.small);
        settling = free.settling;
        offering = free.offering;
      }

  second_allowed : Allowed (Process.repl w.copied) w.bound 0 c.second
  unfolding settle any_of
  second_allowed =
      let k = w.opens in
      let u = repl w.bound w.copied in
      let later : k ≤ c.second = omega (arith, names_later w.copied w.bound k, e.later.after e.again) in
      let free = (neither (over_offers u k) _ e.arrived.allowed.offering).0 in
      thread_allowed u c.second (copies_alike u k c.second e.stored later ∙ free)
      (names_fitting c.second (Process.repl w.copied) e.arrived.prepared.process short e.later.small)

module _ {s m m₁ : List ℕ} {mark : ℕ} {thread r : Way} {c : CopyAt} where
  pub enter_same : ShortModel s → c.arity ≡ 1
      → Reaches s m (record { at = thread.at + 1; left = thread.left - 1; end = thread.end; names = thread.opens; opens = c.second })
      mark r m₁ → Enters s thread m c mark r m₁
  enter_same short one f = record {
    exact = λ w a e.
        let g = rw (e.arrived.place, e.arrived.opens) at f in
        let reached = reached_offers g w.copied w.bound (arrived_copy w e.arrived).0 (same_allowed short w e) in
        listed_one e.before a e.behind (sym (same_offers e.excluded c w one) ∙ e.listed)
        (some_offers e.excluded w.copied (w.place + 1) w.bound w.opens c.second reached) e.meant;
  }

  pub enter_second : ShortModel s → (c.arity ≡ 1 → ⊥)
      → Reaches s m (record { at = thread.at; left = thread.left; end = thread.end; names = 0; opens = c.second }) mark r m₁
      → Enters s thread m c mark r m₁
  unfolding located_offers
  enter_second short other f = record {
    exact = λ w a e.
        let k = c.second in
        let g = rw e.arrived.place at f in
        let reached = reached_offers g (Process.repl w.copied) w.bound e.arrived.prepared (second_allowed short w e) in
        listed_one e.before a e.behind (sym (second_offers e.excluded c w e.again other) ∙ e.listed)
        (some_offers e.excluded w.copied (w.place + 1) w.bound k (names w.copied w.bound k) reached) e.meant;
  }

  -- A repl thread that was reached stands in the model, and takes a node.
  pub enter_short : thread.left ≡ 0 → Enters s thread m c mark r m₁
  enter_short z = record {
    exact = λ w a e. absurd (omega (arith, (process_kind (Process.repl w.copied) e.arrived.prepared.process).2));
  }

  pub enter_past : length s ≤ thread.at → Enters s thread m c mark r m₁
  enter_past z = record {
    exact = λ w a e. absurd (omega (arith, e.arrived.place, (process_kind (Process.repl w.copied) e.arrived.prepared.process).1));
  }

pub ruleset entering = (enter_same, enter_second, enter_short, enter_past)

-- An offer in the copies of a repl thread is reached by way of that thread.
pub copy_arrives : {s m m₁ m₂ out : List ℕ} {at k mark : ℕ} {thread r : Way} {c : CopyAt} → Comes s at k m c.place out thread m₁
    → Enters s thread m₁ c mark r m₂ → ComesIn s at k m c mark out r m₂
copy_arrives {k = k} f g = record {
  exact = λ t pre post w before behind a h copied place again later excluded listed e.
      let P = process_of t.thread in
      let ρ = bound_of t.thread in
      let (j, d) = listed_one pre w post copied (copies_down P t.place ρ 0 k) in
      let opening = listed_one pre w post copied (opened_all P t.place ρ 0 k (judged_clear t 0 h.judged)) in
      g.exact w a (record {
        settled = j;
        arrived = f.exact t (copy_site w j) h (le_refl k) (omega (arith, h.few)) d place;
        stored = opening.stored;
        again = again;
        later = later;
        excluded = excluded;
        before = before;
        behind = behind;
        listed = listed;
        meant = e;
      });
}

pub copy_counted : {s argument m m₁ out : List ℕ} {at k mark n : ℕ} {r : Way} {c : CopyAt} {v : Option ℕ} → ShortModel s
    → ComesIn s at k m c mark out r m₁ → CountsRest s argument r.at r.left m₁ r.end n v → CountsIn s argument at k m c mark n out v
copy_counted short f v = record {
  exact = λ t x pre post w before after a h i small copied place again later excluded listed e.
      let (o, reached) = f.exact t pre post w before after a h copied place again later excluded listed e in
      behind_counted a short v reached i small;
}

-- What is written stands in m anywhere, after one call and after two.
pub from_front : {s t : List ℕ} {low high : ℕ} → Within low high s t → Within 0 (length s) s t
from_front w = wider (to_end w) (omega arith) (omega arith)

pub after_two : {s t u : List ℕ} {low high high₁ : ℕ} → Within 0 high s t → Within low high₁ t u → Within 0 (length s) s u
after_two w v = to_end_twice w v (omega arith)

pub ruleset frames = (from_front, after_two, unchanged)
