-- The next offer among the threads of a state ("Steps").
use mathlib.Core.Path.{◌≡◌, refl, sym, ◌∙◌}
use mathlib.Core.Bool.{Bool, true, false, not, true≢false}
use mathlib.Core.List.{List, [], ◌∷◌}
use Prim.Native.Nat.{ℕ, ◌+◌, ◌-◌, ◌≤◌, ◌<◌}
use native.Mathlib.Omega.{arith}
use lib.Dec.{eqb}
use borrow.Author.Tests.{ne_eqb}
use lib.ListN.{length}
use Rattle.meaning.specs.Messages.Term.{Message}
use Rattle.buffer.specs.Word.{number_at}
use Rattle.buffer.specs.Buffer.{Within}
use Rattle.state_record.specs.Record.{Placed, encode_record}
use Rattle.state_progress.specs.TraversalResult.{Accumulated, going, found}
use Rattle.state_progress.specs.Represented.{RepresentsResult}
use Rattle.state_task.specs.declared.task.Quest.{Quest}
use Rattle.state_progress.specs.declared.progress.Progress.{Progress}
use Rattle.step_located.specs.Located.{LocatedOffer}
use Rattle.step_located.specs.Sought.{wanted, sent_by, first}
use Rattle.step_transition.specs.Focus.{offers_of}
use Rattle.step_transition.specs.Threads.{Threads}
use Rattle.state_layout.specs.Loaded.{nothing_yet, IsRunOf}
use Rattle.step_offer.specs.Seek.{Sight, seen, starting_at, first_of, first_among, ShowsSight, Looks, Seeks}
use Rattle.step_offer.specs.Pass.{PassesRecords, Behind}
use Rattle.step_offer.specs.declared.pass.Passed.{Passed}
use Rattle.step_offer.specs.declared.seek.Sighting.{Sighting}
use Rattle.step_transition.proofs.Laws.Threads.{first_thread, threads_kept, no_threads, record_end}
use Rattle.index_process.specs.Index.{ShortModel}

-- What is found first is seen first.
shown_found : (s out : List ℕ) (r : Progress) (q : Quest) (x : Message) (at : ℕ) (os : List LocatedOffer) (g : Accumulated) (later : Sight)
    → RepresentsResult s out r (first q x os (going g)) → r.going ≡ false
    → ShowsSight out (record { at = at; done = r }) (first_of q x at os later)
unfolding first first_of
shown_found s out r q x at [] g later h o = absurd (let z : true ≡ false = sym h.on ∙ o in let w : ◌≡◌ {A = ℕ} 0 1 = cc in omega arith)
shown_found s out r q x at (a ∷ os) g later h o =
    by_test (λ h. shown_found s out r q x at os g later h o) (wanted q x a) h
  where
    by_test : (RepresentsResult s out r (first q x os (going g)) → ShowsSight out (record { at = at; done = r }) (first_of q x at os later))
        → (b : Bool)
        → RepresentsResult s out r (elim b [ true ↦ found a.place a.next (sent_by a) | false ↦ first q x os (going g) ])
        → ShowsSight out (record { at = at; done = r }) (elim b [ true ↦ seen at a | false ↦ first_of q x at os later ])
    by_test others true h = record { at = refl; mark = h.mark; next = h.next; messages = h.messages }
    by_test others false h = others h

-- Where the traversal goes on, none is.
shown_going : (s out : List ℕ) (r : Progress) (q : Quest) (x : Message) (at : ℕ) (os : List LocatedOffer) (g : Accumulated) (later : Sight)
    → RepresentsResult s out r (first q x os (going g)) → r.going ≡ true → first_of q x at os later ≡ later
unfolding first first_of
shown_going s out r q x at [] g later h o = refl
shown_going s out r q x at (a ∷ os) g later h o =
    by_test (λ h. shown_going s out r q x at os g later h o) (wanted q x a) h
  where
    by_test : (RepresentsResult s out r (first q x os (going g)) → first_of q x at os later ≡ later) → (b : Bool)
        → RepresentsResult s out r (elim b [ true ↦ found a.place a.next (sent_by a) | false ↦ first q x os (going g) ])
        → elim b [ true ↦ seen at a | false ↦ first_of q x at os later ] ≡ later
    by_test others true h = absurd (let z : true ≡ false = sym o ∙ h.off in let w : ◌≡◌ {A = ℕ} 0 1 = cc in omega arith)
    by_test others false h = others h

-- What a test that is turned says of it.
pub untrue : (b : Bool) → not b ≡ true → b ≡ false
untrue true e = absurd (true≢false (sym e))
untrue false e = refl

pub true_so : (b : Bool) → not b ≡ false → b ≡ true
true_so true e = refl
true_so false e = absurd (true≢false e)

-- The record at the position skip is passed over, the offers of another are looked at.
pub among_skipped : (q : Quest) (x : Message) (n skip at : ℕ) (t : Placed) (ts : List Placed) → eqb at skip ≡ true
    → first_among q x n skip at (t ∷ ts) ≡ first_among (starting_at q 0) x n skip (at + length (encode_record t)) ts
unfolding first_among
among_skipped q x n skip at t ts e = rw (e, first_among)

pub among_sought : (q : Quest) (x : Message) (n skip at : ℕ) (t : Placed) (ts : List Placed) → eqb at skip ≡ false
    → first_among q x n skip at (t ∷ ts)
    ≡ first_of q x at (offers_of t n) (first_among (starting_at q 0) x n skip (at + length (encode_record t)) ts)
unfolding first_among
among_sought q x n skip at t ts e = rw (e, first_among)

module _ (s argument : List ℕ) (at to : ℕ) (m : List ℕ) (q : Quest) (skip n : ℕ) (out : List ℕ) where
  seek_short : {r : Sighting} → r.done.mark ≡ 0 → to - at < 4 → Seeks s argument at to m q skip n out r out
  unfolding first_among
  seek_short {r} e l = record { exact = λ ps x h k b d f g i j. of ps x h }
    where
      of : (ps : List Placed) (x : Message) {k : ℕ} → Threads s out at k ps to → ShowsSight out r (first_among q x n skip at ps)
      of [] x h = e
      of (t ∷ ts) x h = absurd (omega (arith, record_end t ts h))

  module _ (some : at < to) {r₁ : Progress} {out₁ : List ℕ} (v : Looks s argument at to m q n out r₁ out₁) (differs : at ≡ skip → ⊥) where
    looked : (t : Placed) (ts : List Placed) (x : Message) {k : ℕ} → Threads s out at k (t ∷ ts) to → k ≤ n → q.excluded ≡ 0
        → IsRunOf argument x → ShortModel s → 10750 ≤ length m → to + 3964 ≤ length out → n ≤ 28664
        → RepresentsResult s out₁ r₁ (first q x (offers_of t n) (going (nothing_yet n)))
    looked t ts x h kn b d l1 l2 l3 l4 = let (p, j, rest) = first_thread t ts h in v.exact t x p j kn b d l1 l2 l3 l4

    seek_found : r₁.going ≡ false → Seeks s argument at to m q skip n out (record { at = at; done = r₁ }) out₁
    unfolding first_among
    seek_found o = record { exact = of }
      where
        of : (ps : List Placed) (x : Message) {k : ℕ} → Threads s out at k ps to → k ≤ n → q.excluded ≡ 0 → IsRunOf argument x
            → ShortModel s → 10750 ≤ length m → to + 3964 ≤ length out → n ≤ 28664
            → ShowsSight out₁ (record { at = at; done = r₁ }) (first_among q x n skip at ps)
        of [] x h kn b d l1 l2 l3 l4 = absurd (omega (arith, no_threads h))
        of (t ∷ ts) x h kn b d l1 l2 l3 l4 =
            rw (among_sought q x n skip at t ts (ne_eqb at skip differs))
            (shown_found s out₁ r₁ q x at (offers_of t n) (nothing_yet n) _ (looked t ts x h kn b d l1 l2 l3 l4) o)

    seek_passed : {r : Sighting} {m₁ after : List ℕ} {high : ℕ} → r₁.going ≡ true → Within 0 high m m₁ → Within to (length out) out out₁
        → Seeks s argument (at + 4 + number_at out₁ (at + 2)) to m₁ (starting_at q 0) skip n out₁ r after → Seeks s argument at to m q skip n out r after
    unfolding first_among
    seek_passed {r} {m₁} {after} o wm wo later = record { exact = of }
      where
        of : (ps : List Placed) (x : Message) {k : ℕ} → Threads s out at k ps to → k ≤ n → q.excluded ≡ 0 → IsRunOf argument x
            → ShortModel s → 10750 ≤ length m → to + 3964 ≤ length out → n ≤ 28664
            → ShowsSight after r (first_among q x n skip at ps)
        of [] x h kn b d l1 l2 l3 l4 = absurd (omega (arith, no_threads h))
        of (t ∷ ts) x h kn b d l1 l2 l3 l4 =
            let kept = threads_kept (t ∷ ts) wo (omega arith) h in
            let (p, j, rest) = first_thread t ts kept in
            let here : at + length (encode_record t) ≡ at + 4 + number_at out₁ (at + 2) = omega (arith, record_end t ts kept) in
            let later-at = later.exact ts x (rw here at rest) kn b d l1 (omega (arith, wm.long)) (omega (arith, wo.long)) l4 in
            let others = first_among (starting_at q 0) x n skip (at + length (encode_record t)) ts in
            let passed = shown_going s out₁ r₁ q x at (offers_of t n) (nothing_yet n) others (looked t ts x h kn b d l1 l2 l3 l4) o in
            rw (among_sought q x n skip at t ts (ne_eqb at skip differs), passed, here) later-at

-- What is seen from the position i on, as the bytes are now, is what is seen from the position at on, as they were; and the record there is
-- not the one at the position skip.
pub record Comes (s argument : List ℕ) (at to : ℕ) (q : Quest) (skip n : ℕ) (m out : List ℕ) (i from : ℕ) (m₁ out₁ : List ℕ) : Type 0 where
  pub same : {r : Sighting} {after : List ℕ} → Seeks s argument i to m₁ (starting_at q from) skip n out₁ r after
      → Seeks s argument at to m q skip n out r after
  pub other : i < to → 4 ≤ to - i → i ≡ skip → ⊥

module _ {s argument m₀ out₀ : List ℕ} {at to skip n : ℕ} {q : Quest} where
  pub comes_first : {p : Passed} → PassesRecords s argument at to q skip out₀ p → Comes s argument at to q skip n m₀ out₀ p.at p.from m₀ out₀
  comes_first pass = record { same = λ v. pass.onward.same m₀ n v; other = pass.other }

  module _ {i from : ℕ} {m out : List ℕ} (come : Comes s argument at to q skip n m₀ out₀ i from m out) where
    pub comes_last : {r : Sighting} → r.done.mark ≡ 0 → to - 4 < i → Seeks s argument at to m₀ q skip n out₀ r out
    comes_last e l = come.same (seek_short s argument i to m (starting_at q from) skip n out e (omega arith))

    module _ (long : 4 ≤ to) (some : i ≤ to - 4) {here : Quest} (is : here ≡ starting_at q from) {r₁ : Progress} {out₁ : List ℕ}
        (v : Looks s argument i to m here n out r₁ out₁) where
      looks : Looks s argument i to m (starting_at q from) n out r₁ out₁
      looks = rw is at v

      pub comes_found : not r₁.going ≡ true → Seeks s argument at to m₀ q skip n out₀ (record { at = i; done = r₁ }) out₁
      comes_found o =
          let differs = come.other (omega arith) (omega arith) in
          come.same (seek_found s argument i to m (starting_at q from) skip n out (omega arith) looks differs (untrue r₁.going o))

      pub comes_further : {high : ℕ} {m₁ : List ℕ} {next : Passed} → not r₁.going ≡ false → Within 0 high m m₁
          → Within to (length out) out out₁ → Behind s argument i to q skip out₁ next
          → Comes s argument at to q skip n m₀ out₀ next.at next.from m₁ out₁
      comes_further {m₁ = m₁} o wm wo later =
          let differs = come.other (omega arith) (omega arith) in
          record {
            same = λ w. come.same (seek_passed s argument i to m (starting_at q from) skip n out (omega arith) looks differs (true_so r₁.going o)
                wm wo (later.passes.onward.same m₁ n w));
            other = later.passes.other;
          }

pub comes_none : {s argument m out : List ℕ} {at to skip n : ℕ} {q : Quest} {r : Sighting} → r.done.mark ≡ 0 → to < 4
    → Seeks s argument at to m q skip n out r out
comes_none {s} {argument} {m} {out} {at} {to} {skip} {n} {q} e l = seek_short s argument at to m q skip n out e (omega arith)

pub ruleset seekings = (comes_first, comes_last, comes_found, comes_further, comes_none)
