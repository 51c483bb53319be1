-- The first offer in the copies of one repl thread of a thread ("Steps").
use mathlib.Core.Path.{◌≡◌, refl, ◌∙◌}
use mathlib.Core.Bool.{Bool, true, false}
use mathlib.Core.List.{List, [], ◌∷◌, ◌++◌}
use Prim.Native.Nat.{ℕ, ◌+◌, ◌≤◌}
use native.Mathlib.Omega.{arith}
use native.Mathlib.Nat.{le_refl}
use lib.Dec.{eqb}
use borrow.Author.Tests.{eqb-true, eqb-false, ne_eqb}
use Rattle.meaning.specs.Messages.Term.{leaf, public, Message}
use Rattle.meaning.specs.Places.{Every, none, ◌also◌}
use Rattle.meaning.specs.Steps.State.{Thread, act, repl, names}
use Rattle.meaning.proofs.Every.{every_parts}
use Rattle.state_record.specs.Record.{Placed, process_of, bound_of}
use Rattle.state_progress.specs.TraversalResult.{Accumulated, going, found, named}
use Rattle.state_task.specs.Machine.{contains, at_repl}
use Rattle.state_head.specs.Traversal.{at_prefix, go}
use Rattle.state_head.specs.News.{later_news}
use Rattle.state_progress.specs.Represented.{RepresentsResult}
use Rattle.state_task.specs.declared.task.Task.TheVariants.{SeekIn}
use Rattle.state_task.specs.declared.task.Quest.{Quest}
use Rattle.state_task.specs.declared.task.CopyAt.{CopyAt}
use Rattle.state_progress.specs.declared.progress.Progress.{Progress}
use Rattle.step_located.specs.Located.{LocatedOffer}
use Rattle.step_located.specs.Sought.{wanted, sent_by, first, offers_except, Opened}
use Rattle.step_located.proofs.Laws.SeekIn.{sought_in_first, sought_in_same, sought_in_second}
use Rattle.step_located.proofs.Laws.Traversal.{Free, free_later, free_opened}
use Rattle.step_located.proofs.Laws.Marks.{holds_none}
use Rattle.step_transition.specs.Focus.{copies_of, filter}
use Rattle.step_transition.specs.Threads.{Judged}
use Rattle.state_layout.specs.Loaded.{IsRunOf, TraversesThread}
use Rattle.state_progress.specs.Progress.{Begins}
use Rattle.state_layout.specs.Loaded.{nothing_yet}
use Rattle.step_transition.specs.CopyOffers.{ThreadAt, copy_offers, Later, outputs, senders}
use Rattle.step_copy_pair.specs.Meet.{ShowsFirst, Looks, NextCopySender}
use Rattle.state_layout.proofs.Laws.Loaded.{begins_shown}
use Rattle.step_transition.proofs.Laws.Opened.{Opening, opened_all, names_later, judged_clear, judged_free, copies_settled}
use Rattle.state_layout.proofs.Laws.Argument.{argument_zero}

-- No repl thread has the mark 0.
nowhere_sought : (t : Placed) (q : Quest) (c : CopyAt) (k : ℕ) (x : Message) (g : Accumulated) → c.place ≡ 0
    → go (process_of t.thread) (SeekIn q c k) x t.place (bound_of t.thread) g ≡ going g
unfolding go at_prefix at_repl
nowhere_sought t q c k x g e = of t.thread
  where
    of : (u : Thread) → go (process_of u) (SeekIn q c k) x t.place (bound_of u) g ≡ going g
    of (act ρ p P) = refl
    of (repl ρ P) =
        let here : eqb (t.place + 1) c.place ≡ false = ne_eqb (t.place + 1) c.place (λ s. omega arith) in
        let inner : contains c.place (t.place + 1) P ≡ false = rw e (holds_none (t.place + 1) P) in
        rw (here, inner, at_repl)

-- One of the repl threads of a thread that was judged.
pub opening_at : {k : ℕ} (t : Placed) (pre post : List Opened) (w : Opened) → Judged k t → copies_of t k ≡ pre ++ (w ∷ post)
    → Opening k (later_news (process_of t.thread)) w
opening_at {k} t pre post w j e =
    let all = opened_all (process_of t.thread) t.place (bound_of t.thread) 0 k (judged_clear t 0 j) in
    chosen (every_parts pre (rw e at all)).1
  where
    chosen : Every (Opening k (later_news (process_of t.thread))) (w ∷ post) → Opening k (later_news (process_of t.thread)) w
    chosen (o also os) = o

-- The offers of the copies by the arity.
module _ (excluded : ℕ) (c : CopyAt) (w : Opened) where
  pub offers_first : c.arity ≡ 0
      → copy_offers excluded c w ≡ offers_except excluded w.copied (w.place + 1) w.bound w.opens (names w.copied w.bound w.opens)
  unfolding copy_offers
  offers_first e = rw (e, copy_offers)

  pub offers_same : c.arity ≡ 1 → copy_offers excluded c w ≡ offers_except excluded w.copied (w.place + 1) w.bound w.opens c.second
  unfolding copy_offers
  offers_same e = rw (e, copy_offers, e)

  pub offers_second : c.arity ≡ 2
      → copy_offers excluded c w
      ≡ offers_except excluded w.copied (w.place + 1) w.bound c.second (names w.copied w.bound c.second)
  unfolding copy_offers
  offers_second e = rw (e, copy_offers, e)

-- The traversal finds the first offer of the copies that are meant.
module _ (t : Placed) (q : Quest) (c : CopyAt) {k : ℕ} (x : Message) (pre post : List Opened) (w : Opened) (j : Judged k t)
    (listed : copies_of t k ≡ pre ++ (w ∷ post)) (meant : c.place ≡ w.place + 1) (later : Later c w) where
  abbrev Sought : List LocatedOffer → Type 0
  Sought L =
      go (process_of t.thread) (SeekIn q c k) x t.place (bound_of t.thread) (nothing_yet k)
      ≡ first q x L (going (named (names (process_of t.thread) (bound_of t.thread) k) (nothing_yet k)))

  free : Free (process_of t.thread) (bound_of t.thread) k k
  free = judged_free t k j

  opening : Opening k (later_news (process_of t.thread)) w
  opening = opening_at t pre post w j listed

  sought-first : c.arity ≡ 0 → Sought (copy_offers q.excluded c w)
  sought-first e =
      rw (offers_first q.excluded c w e)
      (sought_in_first q c k x (process_of t.thread) t.place (bound_of t.thread) (nothing_yet k) free.settling free.offering pre post w
      (copies_settled t k k ∙ listed) meant e)

  sought_same : c.arity ≡ 1 → Sought (copy_offers q.excluded c w)
  sought_same e =
      let same = free_later w.copied _ c.second opening.stored (le_refl _) (later.after (omega arith)) opening.free in
      rw (offers_same q.excluded c w e)
      (sought_in_same q c k x (process_of t.thread) t.place (bound_of t.thread) (nothing_yet k) free.settling free.offering pre post w
      (copies_settled t k k ∙ listed) meant e same.offering)

  sought_second : c.arity ≡ 2 → Sought (copy_offers q.excluded c w)
  sought_second e =
      let on = later.after (omega arith) in
      let second =
      free_opened w.copied w.opens c.second opening.stored (le_refl _)
      (omega (arith, names_later w.copied w.bound w.opens)) opening.free in
      rw (offers_second q.excluded c w e)
      (sought_in_second q c k x (process_of t.thread) t.place (bound_of t.thread) (nothing_yet k) free.settling free.offering pre post w
      (copies_settled t k k ∙ listed) meant e second.settling second.offering)

  copy_sought : Sought (copy_offers q.excluded c w)
  copy_sought = by_first (eqb c.arity 0) refl
    where
      by_others : (c.arity ≡ 0 → ⊥) → (b : Bool) → eqb c.arity 1 ≡ b → Sought (copy_offers q.excluded c w)
      by_others some true e = sought_same (eqb-true c.arity 1 e)
      by_others some false e = let other = eqb-false c.arity 1 e in sought_second (omega (arith, later.arity))

      by_first : (b : Bool) → eqb c.arity 0 ≡ b → Sought (copy_offers q.excluded c w)
      by_first true e = sought-first (eqb-true c.arity 0 e)
      by_first false e = by_others (eqb-false c.arity 0 e) (eqb c.arity 1) refl

-- What is found first is the first that is wanted.
shows_first : (s out : List ℕ) (r : Progress) (q : Quest) (x : Message) (os : List LocatedOffer) (g : Accumulated)
    → RepresentsResult s out r (first q x os (going g)) → ShowsFirst out r (filter (wanted q x) os)
unfolding first filter
shows_first s out r q x [] g h = h.on
shows_first s out r q x (a ∷ os) g h = by_test (shows_first s out r q x os g) (wanted q x a) h
  where
    by_test : (RepresentsResult s out r (first q x os (going g)) → ShowsFirst out r (filter (wanted q x) os)) → (b : Bool)
        → RepresentsResult s out r (elim b [ true ↦ found a.place a.next (sent_by a) | false ↦ first q x os (going g) ])
        → ShowsFirst out r (elim b [ true ↦ a ∷ filter (wanted q x) os | false ↦ filter (wanted q x) os ])
    by_test others true h = h
    by_test others false h = others h

pub looks : (s argument : List ℕ) (at : ℕ) {to : ℕ} (m : List ℕ) (q : Quest) (c : CopyAt) (k : ℕ) (out : List ℕ) {now r : Progress}
    {after : List ℕ} → Begins to k now → TraversesThread s argument at m (SeekIn q c k) out now r after → Looks s argument at k to m q c out r after
looks s argument at {to} m q c k out {now} {r} {after} begins v = record {
  nowhere = λ t x h d e l.
      let shown = traversed t x h d l in
      let none = rw (nowhere_sought t q c k x (nothing_yet k) e) at shown in
      none.on;
  exact = λ t x pre post w h d listed meant later.
      let shown = traversed t x h d later.small in
      shows_first s after r q x (copy_offers q.excluded c w) _ (rw (copy_sought t q c x pre post w h.judged listed meant later) at shown);
}
  where
    traversed : (t : Placed) (x : Message) → ThreadAt s out m at k to t → IsRunOf argument x → c.second ≤ 28664
        → RepresentsResult s after r (go (process_of t.thread) (SeekIn q c k) x t.place (bound_of t.thread) (nothing_yet k))
    traversed t x h d l =
        let few : k ≤ 28664 = omega (arith, h.few) in
        v.exact t x (nothing_yet k) h.recorded d h.short h.wide (few also few also l also none) tt (begins_shown now begins h.room)

-- An output of the first copy, whatever its channel.
pub sends : (s : List ℕ) {argument : List ℕ} (at k to : ℕ) (m : List ℕ) (copy x : ℕ) (out : List ℕ) {r : Progress} {after : List ℕ}
    → argument ≡ 16 ∷ 0 ∷ [] → Looks s argument at k to m (outputs x) (record { place = copy; arity = 0; second = 0 }) out r after
    → NextCopySender s at k to m copy x out r after
unfolding senders
sends s at k to m copy x out {r} {after} e h = record {
  nowhere = λ t d z. h.nowhere t (leaf (public 0)) d (argument_zero e) z (omega arith);
  exact = λ start p w d.
      let first : CopyAt = record { place = copy; arity = 0; second = 0 } in
      let shown = h.exact p.thread (leaf (public 0)) d.pre d.post w d.thread (argument_zero e) d.listed d.meant
      (record { arity = omega arith; after = λ l. absurd (omega arith); small = omega arith }) in
      rw d.meant at shown;
}
