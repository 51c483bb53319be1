-- Records that are gone over, one by one ("Steps").
use mathlib.Core.Path.{◌≡◌, sym, ◌∙◌}
use mathlib.Core.Bool.{Bool, true, false, not, true≢false}
use mathlib.Core.List.{List, [], ◌∷◌}
use Prim.Native.Nat.{ℕ, ◌+◌, ◌-◌, ◌≤◌, ◌<◌}
use native.Mathlib.Omega.{arith}
use lib.Dec.{eqb}
use borrow.Author.Tests.{eq-eqb, ne_eqb}
use lib.ListN.{length}
use Rattle.meaning.specs.Messages.Term.{Message}
use Rattle.buffer.specs.Word.{number_at}
use Rattle.state_record.specs.Record.{Placed, encode_record}
use Rattle.state_record.proofs.Laws.Stored.{record_parts}
use Rattle.state_task.specs.declared.task.Quest.{Quest}
use Rattle.state_layout.specs.Loaded.{IsRunOf}
use Rattle.step_transition.specs.Threads.{Threads}
use Rattle.step_transition.proofs.Laws.Threads.{first_thread, no_threads, record_end}
use Rattle.step_offer.specs.Seek.{starting_at, first_among, ShowsSight, Seeks}
use Rattle.step_offer.specs.Pass.{NoOffer, Skips, SeeksAlike, PassesRecords, Behind}
use Rattle.step_offer.specs.declared.pass.Passed.{Passed}
use Rattle.step_offer.specs.declared.seek.Sighting.{Sighting}
use Rattle.step_offer.proofs.Laws.Seek.{untrue, true_so, among_skipped, among_sought}
use Rattle.index_process.specs.Index.{ShortModel}

-- The record at the position skip, and that of a thread without such an offer, or of which nothing is said.
module _ {s argument out : List ℕ} {at skip : ℕ} {q : Quest} where
  pub skips_own : at ≡ skip → Skips s argument at q skip out (eqb at skip)
  skips_own same = rw (eq-eqb at skip same) (record {
    exact = λ _ t ts x k h b l. among_skipped q x k skip at t ts (eq-eqb at skip same);
    other = λ e. absurd (true≢false e);
  })

  pub skips_idle : {place : ℕ} {r : Bool} → (at ≡ skip → ⊥) → place ≡ number_at out at → NoOffer s argument place q r → Skips s argument at q skip out r
  skips_idle differs e d = record {
    exact = λ own t ts x k h b l.
        let (here, size, bound) = record_parts t h.stands in
        among_sought q x k skip at t ts (ne_eqb at skip differs) ∙ d.exact own t x k at _ (sym here ∙ sym e) h.standing b l;
    other = λ _. differs;
  }

pub ruleset skips = (skips_own, skips_idle)

-- None is gone over; or one more.
module _ {s argument out : List ℕ} {at to skip : ℕ} {q : Quest} where
  pub onward_none : SeeksAlike s argument at to q skip out at (starting_at q q.from)
  onward_none = record { same = λ m k v. v }

  pub onward_more : {i from size : ℕ} {here : Quest} {r : Bool} → SeeksAlike s argument at to q skip out i (starting_at q from) → here ≡ starting_at q from
      → Skips s argument i here skip out r → not r ≡ false → size ≡ number_at out (i + 2) → 4 ≤ to → i ≤ to - 4
      → SeeksAlike s argument at to q skip out (i + 4 + size) (starting_at q 0)
  onward_more {i} {from} {size} {here} {r} before e d own z some low = record { same = λ m k v. before.same m k (record { exact = of m k v }) }
    where
      gone : Skips s argument i (starting_at q from) skip out r
      gone = rw e at d

      of : (m : List ℕ) (n : ℕ) {r : Sighting} {after : List ℕ} → Seeks s argument (i + 4 + size) to m (starting_at q 0) skip n out r after
          → (ps : List Placed) (x : Message) {k : ℕ} → Threads s out i k ps to → k ≤ n → q.excluded ≡ 0 → IsRunOf argument x
          → ShortModel s → 10750 ≤ length m → to + 3964 ≤ length out → n ≤ 28664
          → ShowsSight after r (first_among (starting_at q from) x n skip i ps)
      of m n v [] x h kn b l l1 l2 l3 l4 = absurd (omega (arith, no_threads h))
      of m n v (t ∷ ts) x h kn b l l1 l2 l3 l4 =
          let (p, j, rest) = first_thread t ts h in
          let next : i + length (encode_record t) ≡ i + 4 + size = omega (arith, record_end t ts h) in
          rw (gone.exact (true_so r own) t ts x n p b l.same, next) (v.exact ts x (rw next at rest) kn b l l1 l2 l3 l4)

  -- The answer.
  module _ {i from : ℕ} (before : SeeksAlike s argument at to q skip out i (starting_at q from)) where
    pub passes_here : {here : Quest} {r : Bool} → here ≡ starting_at q from → Skips s argument i here skip out r → not r ≡ true
        → PassesRecords s argument at to q skip out (record { at = i; from = from })
    passes_here {r = r} e d left = record { onward = before; other = λ _ _. d.other (untrue r left) }

    pub passes_all : to - 4 < i → PassesRecords s argument at to q skip out (record { at = i; from = from })
    passes_all l = record { onward = before; other = λ g h. absurd (omega arith) }

  pub passes_short : to < 4 → PassesRecords s argument at to q skip out (record { at = at; from = q.from })
  passes_short l = record { onward = onward_none; other = λ _ h. absurd (omega arith) }

pub ruleset onwards = (onward_none, onward_more, passes_here, passes_all, passes_short)

-- Behind a record.
pub passes_behind : {s argument out : List ℕ} {at to skip size : ℕ} {q f : Quest} {r : Passed} → size ≡ number_at out (at + 2) → f ≡ starting_at q 0
    → PassesRecords s argument (at + 4 + size) to f skip out r → Behind s argument at to q skip out r
passes_behind z e p = record { passes = rw (← z, ← e) p }
