-- The first offer of one thread: by a traversal of it, or, where it acts by itself, at its own place ("Steps").
use mathlib.Core.Path.{◌≡◌, refl, sym, ◌∙◌}
use mathlib.Core.Bool.{false}
use mathlib.Core.List.{List}
use Prim.Native.Nat.{ℕ, ◌+◌, ◌-◌, ◌≤◌, ◌<◌}
use native.Mathlib.Omega.{arith}
use lib.ListN.{length, get_or}
use Rattle.meaning.specs.Messages.Term.{Message}
use Rattle.meaning.specs.Bytes.Process.{Process}
use Rattle.meaning.specs.Places.{none, ◌also◌}
use Rattle.meaning.specs.Steps.State.{Thread, act, repl, names, settle}
use Rattle.meaning.specs.Logic.Truth.{any_of}
use Rattle.meaning.specs.Judging.Limits.{over_settling, over_offers}
use Rattle.meaning.proofs.Judging.Alike.{copies_alike}
use Rattle.buffer.specs.Word.{number_at}
use Rattle.buffer.specs.Buffer.{Within}
use Rattle.message_term.specs.Bound.{BoundTo}
use Rattle.state_record.specs.Place.{ProcessAt}
use Rattle.state_record.specs.Record.{Placed, process_of, bound_of}
use Rattle.state_progress.specs.TraversalResult.{going}
use Rattle.state_progress.specs.Represented.{RepresentsResult}
use Rattle.state_record.specs.Stored.{Loads}
use Rattle.state_record.specs.declared.stored.Loaded.{Loaded}
use Rattle.state_progress.specs.declared.progress.Progress.{Progress}
use Rattle.state_record.proofs.Laws.Process.{process_kind}
use Rattle.state_record.proofs.Laws.Stored.{record_parts}
use Rattle.state_task.specs.Thread.{Seeks}
use Rattle.state_task.specs.declared.task.Task.TheVariants.{Seek}
use Rattle.state_task.specs.declared.task.Quest.{Quest}
use Rattle.state_head.specs.Traversal.{at_prefix, go}
use Rattle.state_search.specs.Seek.{begun_at, reached, SeekTraverses}
use Rattle.state_search.specs.declared.seek.Sought.{Sought}
use Rattle.state_layout.specs.Loaded.{nothing_yet, IsRunOf, RecordAt}
use Rattle.state_progress.specs.Progress.{Begins}
use Rattle.state_layout.proofs.Laws.Loaded.{begins_shown, bound_short, thread_traversed}
use Rattle.step_located.specs.Located.{located_offers}
use Rattle.step_located.specs.Sought.{first, offers_except}
use Rattle.step_located.proofs.Laws.SeekFirst.{sought_first}
use Rattle.step_transition.specs.Focus.{offers_of}
use Rattle.step_transition.specs.Threads.{Judged}
use Rattle.step_offer.specs.Seek.{Looks, Alone}

-- A traversal of one thread finds the first of its offers, which do not depend on the name at which the thread was settled.
thread_sought : (t : Placed) (q : Quest) (x : Message) {k : ℕ} (n : ℕ) → Judged k t → k ≤ n → q.excluded ≡ 0
    → go (process_of t.thread) (Seek q n) x t.place (bound_of t.thread) (nothing_yet n)
    ≡ first q x (offers_of t n) (going (nothing_yet n))
unfolding over_settling settle any_of names offers_except located_offers
thread_sought t q x {k} n j l e = of t.thread (copies_alike t.thread k n j.stored l ∙ j.free)
  where
    of : (u : Thread) → over_offers u n ≡ false
        → go (process_of u) (Seek q n) x t.place (bound_of u) (nothing_yet n)
        ≡ first q x (located_offers (process_of u) t.place (bound_of u) 0 n) (going (nothing_yet n))
    of (act ρ p P) o =
        sought_first q n x (process_of (act ρ p P)) t.place ρ (nothing_yet n) refl (rw o) ∙ rw (e, offers_except)
    of (repl ρ P) o =
        sought_first q n x (process_of (repl ρ P)) t.place ρ (nothing_yet n) refl (rw o) ∙ rw (e, offers_except)

-- It is loaded, and the traversal that seeks goes over it.
pub looks_traversed : {s argument m m₁ out after : List ℕ} {at to n : ℕ} {q : Quest} {l : Loaded} {a : Sought} {r : Progress} → Loads out at l m₁
    → Within 0 l.end m m₁ → SeekTraverses s argument l.place 64 m₁ l.end q n n to out a after → r ≡ reached to a
    → Looks s argument at to m q n out r after
looks_traversed {to = to} {n} {q} d w v e = record {
  exact = λ t x p j kn b i l1 l2 l3 l4.
      let begins : Begins to n (begun_at to n) = record { on = refl; next = refl; mark = refl; state = refl } in
      let z = (thread_traversed d w v.traverses).exact t x (nothing_yet n) p i l1 l2 (l4 also l4 also none) tt (begins_shown (begun_at to n) begins l3) in
      rw e (rw (thread_sought t q x n j kn b) at z);
}

-- No process stands there.
placed : {s out : List ℕ} {at place : ℕ} → place ≡ number_at out at → (t : Placed) {next : ℕ} → RecordAt s out at t next → t.place ≡ place
placed p t h = let (here, size, bound) = record_parts t h.stands in sym (p ∙ here)

pub looks_nowhere : {s argument m out : List ℕ} {at place to n : ℕ} {q : Quest} {r : Progress} → place ≡ number_at out at → length s ≤ place
    → Looks s argument at to m q n out r out
looks_nowhere p l = record {
  exact = λ t x h j kn b d l1 l2 l3 l4. absurd (omega (arith, placed p t h, (process_kind (process_of t.thread) h.standing.process).1));
}

-- One that acts by itself.
pub looks_alone : {s argument m out after : List ℕ} {at place to n kind : ℕ} {q : Quest} {r : Progress} → place ≡ number_at out at
    → kind ≡ get_or s place 0 → (kind ≡ 7 → ⊥) → Alone s argument at place to m q n out r after → Looks s argument at to m q n out r after
looks_alone p e z v = v.exact p (λ f. z (e ∙ f))

pub ruleset looks = (looks_nowhere, looks_alone)

-- It is loaded, and its own offer is looked at: there is room for its messages, and for more.
module _ {m m₁ out : List ℕ} {at : ℕ} {l : Loaded} (d : Loads out at l m₁) (w : Within 0 l.end m m₁) where
  bound_loaded : {s : List ℕ} (t : Placed) {next : ℕ} → RecordAt s out at t next → 10750 ≤ length m
      → BoundTo m₁ 0 (bound_of t.thread) l.end × (l.end + 4606 ≤ length m₁)
  bound_loaded t h long =
      let size = bound_short t h in
      let few = h.standing.process.few in
      let (here, next, stands) = d.exact t h.stands h.standing.fits (omega arith) (omega (arith, w.long)) in
      (record { stands = stands; few = omega arith; normal = h.standing.normal }, omega (arith, w.long, stands.size))

  pub alone_narrow : {s argument : List ℕ} {place to n : ℕ} {q : Quest} {r : Progress} → length m₁ - l.end < 4606 → Alone s argument at place to m q n out r out
  alone_narrow short = record {
    exact = λ _ _. record { exact = λ t x h j kn b d l1 l2 l3 l4. absurd (let (bound, room) = bound_loaded t h l2 in omega arith) };
  }

  pub alone_sought : {s argument after : List ℕ} {place to n : ℕ} {q : Quest} {now r : Progress} → Begins to n now
      → Seeks s argument place m₁ l.end q n out now r after → Alone s argument at place to m q n out r after
  unfolding go at_prefix
  alone_sought {s} {argument} {after} {place} {to} {n} {q} {now} {r} begins v = record {
    exact = λ p z. record {
      exact = λ t x h j kn b i l1 l2 l3 l4.
          let (bound, room) = bound_loaded t h l2 in
          rw (← thread_sought t q x n j kn b) (of z t.thread x (placed p t h) h.standing.process bound i l3);
    };
  }
    where
      of : (get_or s place 0 ≡ 7 → ⊥) → (u : Thread) (x : Message) {there next : ℕ} → there ≡ place
          → ProcessAt s there 64 (length (bound_of u)) (process_of u) next → BoundTo m₁ 0 (bound_of u) l.end → IsRunOf argument x
          → to + 3964 ≤ length out → RepresentsResult s after r (go (process_of u) (Seek q n) x there (bound_of u) (nothing_yet n))
      of z (act ρ p P) x i h bound d room = rw i (v.exact p P x ρ (nothing_yet n) (rw i at h) bound d.same (begins_shown now begins room))
      of z (repl ρ P) x i h bound d room = absurd (z (process_kind (Process.repl P) (rw i at h)).0)

pub ruleset alones = (alone_narrow, alone_sought)
