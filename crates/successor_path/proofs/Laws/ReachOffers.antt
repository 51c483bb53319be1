-- What the way down to a mark comes to, for the offers and the repl threads of a process and of a thread, and how it goes on from there
-- ("Steps").
use Rattle.std.specs.Prelude.{Option}
use mathlib.Core.Path.{◌≡◌, refl, ◌∙◌}
use mathlib.Core.Bool.{false, or-false}
use mathlib.Core.List.{List}
use Prim.Native.Nat.{ℕ, ◌+◌, ◌-◌, ◌*◌, ◌≤◌}
use native.Mathlib.Omega.{arith}
use lib.ListN.{length}
use Rattle.meaning.specs.Messages.Term.{Message}
use Rattle.meaning.specs.Bytes.Process.{Process}
use Rattle.meaning.specs.Bytes.Nesting.{variables}
use Rattle.meaning.specs.Places.{Every}
use Rattle.meaning.specs.Steps.State.{Bound, Thread, act, repl, names, settle}
use Rattle.meaning.specs.Logic.Truth.{any_of}
use Rattle.meaning.specs.Judging.Limits.{over_settling, over_offers}
use Rattle.meaning.proofs.Every.{every_map}
use Rattle.buffer.proofs.Laws.Buffer.{unchanged}
use Rattle.message_term.specs.Bound.{BoundTo}
use Rattle.state_head.specs.News.{news}
use Rattle.state_head.specs.Count.{count_of}
use Rattle.state_record.specs.Record.{Placed, process_of, bound_of, Standing}
use Rattle.state_record.proofs.Laws.Process.{of_repl}
use Rattle.step_located.specs.Located.{LocatedOffer, located_offers}
use Rattle.step_located.specs.Sought.{Opened}
use Rattle.step_transition.specs.Outcome.{bound_after}
use Rattle.state_layout.specs.Loaded.{IsRunOf}
use Rattle.successor_path.specs.Reach.{offer_site, copy_site, Prepared, Allowed, Arrives, Reaches, CountsRest}
use Rattle.successor_path.specs.declared.reach.Way.{Way}
use Rattle.successor_path.proofs.Laws.ReachDown.{offers_down, allowed_copy}
use Rattle.successor_path.proofs.Laws.ReachPart.{prepared_part}

-- Offer by offer.
pub reached_offers : {s m after : List ℕ} {f r : Way} {mark : ℕ} → Reaches s m f mark r after → (P : Process) (ρ : Bound)
    → Prepared s f.at f.left m f.end P ρ → Allowed P ρ f.names f.opens
    → Every (λ o. mark ≡ o.place + 1 → (i : ℕ) × Arrives s after r (offer_site o i)) (located_offers P f.at ρ f.names f.opens)
reached_offers {f = f} h P ρ y a =
    every_map (λ o (i, d) e. (i, h.exact (offer_site o i) (record { process = P; bound = ρ; prepared = y; allowed = a; down = d }) e))
    (offers_down P f.at ρ f.names f.opens)

-- From a repl thread that was reached the way goes on in its copy.
module _ {s after : List ℕ} {r : Way} where
  pub arrived_copy : (w : Opened) {i : ℕ} → Arrives s after r (copy_site w i)
      → Prepared s (w.place + 1) (r.left - 1) after r.end w.copied w.bound
      × Allowed w.copied w.bound w.opens (names w.copied w.bound w.opens)
  arrived_copy w d = (
    prepared_part w.copied d.prepared (omega arith) (of_repl w.copied d.prepared.process) (unchanged {low = r.end} {high = r.end}),
    allowed_copy w.copied d.allowed,
  )

  -- From an offer that was reached its rest is counted.
  pub arrived_rest : (a : LocatedOffer) {argument : List ℕ} {x : Message} {i n : ℕ} {c : Option ℕ} → Arrives s after r (offer_site a i) → IsRunOf argument x
      → CountsRest s argument r.at r.left after r.end n c → n + news a.rest ≤ 32760 → c ≡ count_of a.rest (bound_after x a) n
  arrived_rest a {x = x} d l f h = (rw d.place at f).exact a x d.prepared l h

-- A thread: what is prepared for it, and that it meets no limit.
pub thread_prepared : {s m : List ℕ} {end : ℕ} (t : Placed) → Standing s t → BoundTo m 0 (bound_of t.thread) end
    → end + 512 * variables (process_of t.thread) + 4606 ≤ length m
    → Prepared s t.place 64 m end (process_of t.thread) (bound_of t.thread)
thread_prepared t st b room = record { next = st.next; process = st.process; bound = b; room = room }

pub thread_allowed : (t : Thread) (k : ℕ) → over_offers t k ≡ false → k + news (process_of t) ≤ 32760 → Allowed (process_of t) (bound_of t) 0 k
unfolding over_settling settle any_of
thread_allowed (act ρ p P) k f h = record { own = omega arith; later = omega arith; settling = refl; offering = or-false _ ∙ f }
thread_allowed (repl ρ P) k f h = record { own = omega arith; later = omega arith; settling = refl; offering = or-false _ ∙ f }
