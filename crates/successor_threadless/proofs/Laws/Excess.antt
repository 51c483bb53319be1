-- What the copies that a step opens add at most ("Steps"; "Judging and its count").
use mathlib.Core.Path.{◌≡◌, refl, sym, ap, ◌∙◌, subst}
use mathlib.Core.Bool.{Bool, true}
use mathlib.Core.List.{List, [], ◌∷◌, ◌++◌}
use Prim.Native.Nat.{ℕ, zero, suc, ◌+◌, ◌*◌, ◌/◌, ◌≤◌, ◌<◌}
use native.Mathlib.Omega.{arith}
use mir.Syntax.{w64}
use mir.Val.{Fits}
use borrow.Author.Tests.{eqb-false}
use lib.ListN.{length, length-append}
use Rattle.meaning.specs.Messages.Term.{Message}
use Rattle.meaning.specs.Steps.State.{Thread, act, repl, State}
use Rattle.meaning.specs.Judging.Limits.{bound_nodes}
use Rattle.meaning.proofs.Every.{every_split}
use Rattle.buffer.specs.Word.{number_at}
use Rattle.message_term.proofs.Theorems.{bound_length}
use Rattle.state_record.specs.Record.{Placed, process_of, bound_of}
use Rattle.state_record.specs.declared.state.State as code
use Rattle.state_record.proofs.Laws.Process.{kind_of, in_model, process_kind}
use Rattle.state_record.proofs.Laws.Stored.{record_parts}
use Rattle.step_located.specs.Located.{LocatedOffer, located_offers}
use Rattle.step_located.specs.CopyStep.{CopyStep}
use Rattle.step_located.specs.Sought.{Opened, copies}
use Rattle.step_located.specs.Rebuilt.{nodes_of, left_at}
use Rattle.step_located.specs.Rebuilt as rebuilt
use Rattle.step_located.proofs.Laws.Copies.{split_at}
use Rattle.step_located.proofs.Laws.GrowthCopies.{copies_spread}
use Rattle.step_located.proofs.Laws.SpreadRoom.{most, nodes_none, nodes_joined, few_replaced, light_replaced, few_inside, light_inside}
use Rattle.step_transition.specs.Focus.{Focus, record_at, offers_of, copies_of}
use Rattle.step_transition.specs.Moves.{Move, alone, inside, between}
use Rattle.step_transition.specs.Outcome.{replaced_in, sender_rest, taker_rest, outcome}
use Rattle.step_transition.specs.Step.{actor, arity_of, step_of}
use Rattle.step_transition.specs.CopyOffers.{ThreadAt, copy_step_with}
use Rattle.step_transition.specs.WithinLimits.{WithinLimits}
use Rattle.step_transition.specs.Moving.{Leading}
use Rattle.step_label.specs.declared.step.Step as step
use Rattle.step_label.specs.declared.step.Actor.{Actor}
use Rattle.step_label.specs.declared.step.Label.{Label}
use Rattle.step_label.specs.declared.step.Label.TheVariants.{Output, Input, Silent}
use Rattle.successor_continuation.proofs.Laws.RestsMoves.{Stood}
use Rattle.successor_continuation.proofs.Laws.RestsThread.{thread_at}
use Rattle.successor_continuation.proofs.Laws.RestsSettled.{sender_alone, taker_alone, not_silent, step_stood}
use Rattle.successor_rebuild.specs.Kind.{ActsItself}
use Rattle.index_entry.specs.Entry.{growth}
use Rattle.index_process.specs.Index.{GrowsBy}
use Rattle.successor_threadless.specs.Excess.{rests_in, Left, thrice, Copies, Opens, Sums, Adds}
use Rattle.successor_threadless.specs.declared.excess.Excess.{Excess}
use Rattle.successor_rebuild.proofs.Laws.RebuiltMove.{some_arity}
use Rattle.successor_rebuild.proofs.Laws.Own.{only_one, own_place}
use Rattle.successor_threadless.proofs.Laws.Light.{one_weighs, both_weigh}

-- Products of small numbers are small, and grow with them.
product_grows : (a b c : ℕ) → b ≤ c → a * b ≤ a * c
product_grows zero b c l = omega arith
product_grows (suc a) b c l = omega (arith, product_grows a b c l)

pub product_small : {a b : ℕ} → a ≤ 255 → b ≤ 65535 → Fits w64 (a * b)
product_small {a} {b} l k = omega (arith, product_grows a b 65535 k)

-- What a process that may grow so far adds.
pub copies_so : {growth size n : ℕ} {e : Excess} → n ≡ growth * (size / 2 + growth) → e ≡ record { threads = growth; nodes = n }
    → Copies growth size e
copies_so {growth} {size} f e = record {
  threads = ap (λ (r : Excess). r.threads) e;
  nodes = λ n l. omega (arith, product_grows growth (n + growth) (size / 2 + growth) (omega arith), f, ap (λ (r : Excess). r.nodes) e);
}

-- One thread.
module _ {s out : List ℕ} {to at : ℕ} {e : Excess} where
  pub opens_not : 32 < e.threads → Opens s to at out e
  opens_not l = record { exact = λ few. absurd (omega arith); joint = λ few. absurd (omega arith) }

  pub opens_itself : {b : Bool} → ActsItself s at out b → b ≡ true → Opens s to at out e
  unfolding located_offers copies
  opens_itself acts so = record {
    exact = λ few t h i j a before after listed z. of t i j h a before after listed z;
    joint = λ few t h i j arity c u before after listed y z. absurd (no_copies t i h c before after listed);
  }
    where
      of : (t : Placed) (i j : ℕ) {m : List ℕ} {k : ℕ} → ThreadAt s out m at k to t → (a : LocatedOffer) (before after : List LocatedOffer)
          → offers_of t i ≡ before ++ (a ∷ after) → (z : List Placed) → Left [] z (replaced_in t a.place j z) e
      of t i j h a before after listed z = by_thread t.thread refl
        where
          by_thread : (u : Thread) → t.thread ≡ u → Left [] z (replaced_in t a.place j z) e
          by_thread (act ρ q P) f =
              let own = only_one _ a (record { before = before; after = after; listed = rw f at listed }) in
              let same : replaced_in t a.place j z ≡ z =
              ap (λ u. replaced_in (record { place = t.place; thread = u }) a.place j z) f
              ∙ ap (λ b. replaced_in (record { place = t.place; thread = act ρ q P }) b.place j z) own ∙ own_place t.place ρ q P j z in
              record { few = omega (arith, ap length same); light = omega (arith, ap nodes_of same) }
          by_thread (repl ρ P) f =
              absurd (acts.exact so t h.recorded.stands
              ((process_kind (process_of t.thread) h.recorded.standing.process).0 ∙ ap (λ u. kind_of (process_of u)) f))

      no_copies : (t : Placed) (i : ℕ) {m : List ℕ} {k : ℕ} → ThreadAt s out m at k to t → (c : Opened) (before after : List Opened)
          → copies_of t i ≡ before ++ (c ∷ after) → ⊥
      no_copies t i h c before after listed = by_thread t.thread refl
        where
          by_thread : (u : Thread) → t.thread ≡ u → ⊥
          by_thread (act ρ q P) f =
              let none : [] ≡ before ++ (c ∷ after) = rw f at listed in
              omega (arith, ap length none, length-append before (c ∷ after))
          by_thread (repl ρ P) f =
              acts.exact so t h.recorded.stands
              ((process_kind (process_of t.thread) h.recorded.standing.process).0 ∙ ap (λ u. kind_of (process_of u)) f)

  pub opens_copies : {place size n : ℕ} → place ≡ number_at out at → size ≡ number_at out (at + 2) → GrowsBy s place n → Copies n size e
      → Opens s to at out e
  opens_copies {place} {size} {n} p z f c = record {
    exact = λ few t h i j a before after listed y.
        let P = process_of t.thread in
        let ρ = bound_of t.thread in
        let (small, threads, nodes) = spread_of few t h in
        record {
          few = omega (arith, few_replaced a.place y P t.place ρ 0 j small, threads);
          light = omega (arith, light_replaced a.place y P t.place ρ 0 j small, nodes);
        };
    joint = λ few t h i j arity o u before after listed y x.
        let P = process_of t.thread in
        let ρ = bound_of t.thread in
        let (small, threads, nodes) = spread_of few t h in
        let copied = (every_split (split_at before listed) (copies_spread P t.place ρ 0 i small)).1 in
        let w = copy_step_with arity o u in
        record {
          few = omega (arith, few_inside w y x P t.place ρ 0 j small copied, threads, length-append y x);
          light = omega (arith, light_inside w y x P t.place ρ 0 j small copied, nodes, nodes_joined y x);
        };
  }
    where
      spread_of : e.threads ≤ 32 → (t : Placed) {m : List ℕ} {k : ℕ} → ThreadAt s out m at k to t
          → let P = process_of t.thread in (growth P ≤ 32) × (growth P ≡ e.threads) × (growth P * most P (bound_of t.thread) ≤ e.nodes)
      spread_of few t h =
          let P = process_of t.thread in
          let ρ = bound_of t.thread in
          let (own, bytes, bound) = record_parts t h.recorded.stands in
          let is : n ≡ growth P = (rw (p ∙ own) at f).same P (in_model h.recorded.standing.process) in
          let nodes = c.nodes (bound_nodes ρ) (omega (arith, z, bytes, bound_length ρ)) in
          (omega (arith, is, c.threads), omega (arith, is, c.threads), rw is at nodes)

pub ruleset openings = (opens_not, opens_itself, opens_copies)

-- A step: of one thread, by which of the two acts with its label; of two; or in the copies of one.
module _ {s out : List ℕ} {st : code.State} {v : step.Step} {e : Excess} where
  adds_one : (label : Label) (who : step.Step → Actor) → ¬ (Silent ≡ label)
      → ((p : Focus) (a : LocatedOffer) → (step_of st.start (alone p a)).label ≡ label → who (step_of st.start (alone p a)) ≡ actor st.start p a)
      → v.label ≡ label → Opens s st.end (who v).at out e → Adds s st v out e
  unfolding step_of outcome rests_in
  adds_one label who loud acts f opens =
      record { exact = λ few S h x w mv l. of few S h x l w mv.same (step_stood w mv) }
    where
      of : e.threads ≤ 32 → (S : State) (h : WithinLimits s out st S) (x : Message) {m : List ℕ} → Leading s st S m out → (w : Move)
          → v ≡ step_of st.start w → Stood st.names h.at.placed w
          → Left h.at.placed (rests_in x w) (outcome h.at.placed S.next x w).threads e
      of few S h x l (alone p a) g (stands, among) =
          let ps = h.at.placed in
          let own : who v ≡ actor st.start p a = ap who g ∙ acts p a (sym (ap (λ (w : step.Step). w.label) g) ∙ f) in
          let at : (who v).at ≡ record_at st.start p = ap (λ (u : Actor). u.at) own in
          let z = rests_in x (alone p a) in
          let put = replaced_in p.thread a.place S.next z in
          let left = (rw at at opens).exact few p.thread (thread_at h l p stands) st.names S.next a among.before among.after
          among.listed z in
          record {
            few = omega (arith, one_weighs length refl length-append ps p put stands, left.few);
            light = omega (arith, one_weighs nodes_of nodes_none nodes_joined ps p put stands, left.light, nodes_none);
          }
      of few S h x l (inside p j) g stood = absurd (loud (sym (ap (λ (w : step.Step). w.label) g) ∙ f))
      of few S h x l (between p q u) g stood = absurd (loud (sym (ap (λ (w : step.Step). w.label) g) ∙ f))

  pub adds_output : v.label ≡ Output → Opens s st.end v.sender.at out e → Adds s st v out e
  adds_output = adds_one Output (λ w. w.sender) (λ f. let z : ◌≡◌ {A = ℕ} 0 1 = cc in omega arith) (sender_alone st.start)

  pub adds_input : v.label ≡ Input → Opens s st.end v.taker.at out e → Adds s st v out e
  adds_input = adds_one Input (λ w. w.taker) (λ f. let z : ◌≡◌ {A = ℕ} 0 1 = cc in omega arith) (taker_alone st.start)

  pub adds_both : {c d : Excess} → v.label ≡ Silent → v.arity ≡ 0 → Opens s st.end v.sender.at out c
      → Opens s st.end v.taker.at out d → Sums c d e → Adds s st v out e
  unfolding step_of outcome rests_in
  adds_both {c} {d} silent one first second sum = record { exact = λ few S h x w mv l. of few S h x l w mv.same (step_stood w mv) }
    where
      of : e.threads ≤ 32 → (S : State) (h : WithinLimits s out st S) (x : Message) {m : List ℕ} → Leading s st S m out → (w : Move)
          → v ≡ step_of st.start w → Stood st.names h.at.placed w
          → Left h.at.placed (rests_in x w) (outcome h.at.placed S.next x w).threads e
      of few S h x l (alone p a) g stood = absurd (not_silent st.start p a (sym (ap (λ (w : step.Step). w.label) g) ∙ silent))
      of few S h x l (inside p j) g stood = absurd (eqb-false (arity_of j) 0 (some_arity j) (sym (ap (λ (w : step.Step). w.arity) g) ∙ one))
      of few S h x l (between p q u) g sh =
          let ps = h.at.placed in
          let from : v.sender.at ≡ record_at st.start p = ap (λ (w : step.Step). w.sender.at) g in
          let to : v.taker.at ≡ record_at st.start q = ap (λ (w : step.Step). w.taker.at) g in
          let z = sender_rest u in
          let y = taker_rest u in
          let put = replaced_in p.thread u.sender.place S.next z in
          let put' = replaced_in q.thread u.taker.place u.sender.next y in
          let sent = (rw from at first).exact (sum.first few) p.thread (thread_at h l p sh.sending) st.names S.next u.sender
          sh.sender.before sh.sender.after sh.sender.listed z in
          let taken = (rw to at second).exact (sum.second few) q.thread (thread_at h l q sh.taking) u.sender.next u.sender.next
          u.taker sh.taker.before sh.taker.after sh.taker.listed y in
          record {
            few =
                omega (
                  arith,
                  both_weigh length refl length-append p q put put' [] ps (length put) (length put') (λ l. omega arith) (λ l. omega arith),
                  sent.few,
                  taken.few,
                  sum.threads few,
                  length-append z y,
                );
            light =
                omega (
                  arith,
                  both_weigh nodes_of nodes_none nodes_joined p q put put' [] ps (nodes_of put) (nodes_of put') (λ l. omega arith) (λ l. omega arith),
                  sent.light,
                  taken.light,
                  sum.nodes few,
                  nodes_joined z y,
                  nodes_none,
                );
          }

  -- In the copies of one thread.
  pub adds_inside : {c d : Excess} → v.label ≡ Silent → (v.arity ≡ 0 → ⊥) → Opens s st.end v.sender.at out c → Sums c c d → Sums c d e
      → Adds s st v out e
  unfolding step_of outcome rests_in
  adds_inside {c} {d} silent some opens two three = record { exact = λ few S h x w mv l. of few S h x l w mv.same (step_stood w mv) }
    where
      of : e.threads ≤ 32 → (S : State) (h : WithinLimits s out st S) (x : Message) {m : List ℕ} → Leading s st S m out → (w : Move)
          → v ≡ step_of st.start w → Stood st.names h.at.placed w
          → Left h.at.placed (rests_in x w) (outcome h.at.placed S.next x w).threads e
      of few S h x l (alone p a) g stood = absurd (not_silent st.start p a (sym (ap (λ (w : step.Step). w.label) g) ∙ silent))
      of few S h x l (between p q u) g stood = absurd (some (ap (λ (w : step.Step). w.arity) g))
      of few S h x l (inside p j) g jo =
          let ps = h.at.placed in
          let u = j.pair in
          let from : v.sender.at ≡ record_at st.start p = ap (λ (w : step.Step). w.sender.at) g in
          let z = sender_rest u in
          let y = taker_rest u in
          let put = replaced_in p.thread j.place S.next (left_at j z y ++ rebuilt.alone j.place (repl j.bound j.copied)) in
          let left = (rw from at opens).joint (three.first few) p.thread (thread_at h l p jo.stands) st.names S.next jo.arity
          jo.copy u jo.listed.before jo.listed.after jo.listed.listed z y in
          let own : Left [] (z ++ y) put (thrice c) =
          subst (λ (w : CopyStep). Left [] (z ++ y) (replaced_in p.thread w.place S.next
          (left_at w z y ++ rebuilt.alone w.place (repl w.bound w.copied))) (thrice c)) (sym jo.same) left in
          let few₂ = three.second few in
          record {
            few =
                omega (
                  arith,
                  one_weighs length refl length-append ps p put jo.stands,
                  own.few,
                  three.threads few,
                  two.threads few₂,
                );
            light =
                omega (
                  arith,
                  one_weighs nodes_of nodes_none nodes_joined ps p put jo.stands,
                  own.light,
                  three.nodes few,
                  two.nodes few₂,
                  nodes_none,
                );
          }

pub ruleset additions = (adds_output, adds_input, adds_both, adds_inside)
