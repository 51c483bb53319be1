-- What a traversal writes that builds the threads as a step of one thread leaves them ("Steps").
use Prim.Native.Nat.{ℕ, ◌+◌}
use mathlib.Core.Path.{◌≡◌, ap}
use mathlib.Core.Bool.{Bool, true, false, or-false}
use mathlib.Core.List.{List}
use Rattle.meaning.specs.Messages.Term.{Message}
use Rattle.meaning.specs.Bytes.Process.{Prefix, Process}
use Rattle.meaning.specs.Places.{Every, none, ◌also◌}
use Rattle.meaning.specs.Steps.State.{Bound, repl, names}
use Rattle.meaning.specs.Steps.Invariant.{BoundStored}
use Rattle.meaning.specs.Judging.Limits.{over_settling}
use Rattle.meaning.proofs.Every.{every_map, every_joined}
use Rattle.state_record.specs.Place.{right_at, rest_at}
use Rattle.state_record.specs.Record.{Placed}
use Rattle.state_progress.specs.TraversalResult.{further, named, push}
use Rattle.state_task.specs.Machine.{contains, opening, opened, at_repl}
use Rattle.state_head.specs.Traversal.{at_prefix, go}
use Rattle.step_located.specs.Located.{LocatedOffer, located_offers, inside, replaced_as}
use Rattle.step_located.specs.Rebuilt.{replaced_at, rest_of, over_rest, placed_at}
use Rattle.state_task.specs.declared.task.Task.{Task}
use Rattle.state_task.specs.declared.task.Task.TheVariants.{Build}
use Rattle.state_task.specs.declared.task.Plan.{Plan}
use Rattle.step_located.proofs.Laws.Located.{left_part, right_part, repl_part, Inside, acting_inside, left_only, right_only}
use Rattle.step_located.proofs.Laws.Located.{replaced_act, replaced_copy}
use Rattle.step_located.proofs.Laws.Everywhere.{every_and}
use Rattle.step_located.proofs.Laws.Leads.{Said, said, Cases, by_cases}
use Rattle.step_located.proofs.Laws.Rebuilt.{replaced_at_outside}
use Rattle.state_head.proofs.Laws.Crowd.{crowded}
use Rattle.step_located.proofs.Laws.Writing.{writes_returned, writes_settled}
use Rattle.step_located.proofs.Laws.Marks.{Plain, Only, holds_inside}
use Rattle.step_located.proofs.Laws.Traversal.{Free, free_lead, free_par, free_copy}
use Rattle.step_located.proofs.Laws.Traversal.{Does, does_lead, does_par, does_repl, does_opened, does_plain}

-- The mark is that of a position outside the process, or inside.
pub mark_held : (m x at : ℕ) (P : Process) (b : Bool) → m ≡ x + 1 → inside x at P ≡ b → contains m at P ≡ b
mark_held m x at P b e i = rw (e, holds_inside x at P) i

-- One of the two processes of a par has the position y in it, and the list z takes the place of the thread there; the other one is
-- written as it is.
module _ {T : Task} {x : Message} {R : (at : ℕ) → Process → Type 0} (plain : Plain R T x) (P Q : Process) (at : ℕ) {ρ : Bound} {n : ℕ}
    (y : ℕ) (z : List Placed) (k : ℕ) {o : Bool} where
  pub does_left : inside y (at + 1) P ≡ true → R (right_at at P) Q → over_settling Q ρ (names P ρ n) ≡ false
      → Does T x P (at + 1) ρ n o (replaced_at y z P (at + 1) ρ n k)
      → Does T x (Process.par P Q) at ρ n o (replaced_at y z (Process.par P Q) at ρ n k)
  unfolding replaced_as
  does_left i out free d =
      rw (replaced_at_outside y z Q (right_at at P) ρ (names P ρ n) k (left_only y at P Q i))
      (rw or-false at (does_par P Q d (does_plain plain Q _ ρ _ out free)))

  pub does_right : inside y (right_at at P) Q ≡ true → R (at + 1) P → over_settling P ρ n ≡ false
      → Does T x Q (right_at at P) ρ (names P ρ n) o (replaced_at y z Q (right_at at P) ρ (names P ρ n) k)
      → Does T x (Process.par P Q) at ρ n o (replaced_at y z (Process.par P Q) at ρ n k)
  unfolding replaced_as
  does_right i out free d =
      rw (replaced_at_outside y z P (at + 1) ρ n k (right_only y at P Q i)) (does_par P Q (does_plain plain P _ ρ n out free) d)

module _ (b : Plan) (x : Message) {R : (at : ℕ) → Process → Type 0} {mark r : ℕ} {more : Bound → Bound}
    (only : Only R b x mark r more) where
  abbrev rest : LocatedOffer → List Placed
  rest a = rest_of a (more a.bound) r

  -- The offer a is the one that is meant: then what follows it takes its place.
  abbrev Meant : Process → (at : ℕ) → Bound → (n k : ℕ) → LocatedOffer → Type 0
  Meant P at ρ n k a =
      mark ≡ a.place + 1 → BoundStored r (more a.bound) → R at P
      → Does (Build b k) x P at ρ n (over_rest a (more a.bound) r) (replaced_at a.place (rest a) P at ρ n k)

  meant_action : (p : Prefix) (P : Process) (at : ℕ) (ρ : Bound) (n k : ℕ)
      → Meant (Process.act p P) at ρ n k (record { place = at; bound = ρ; prefix = p; rest = P; next = k })
  unfolding go names at_prefix crowded
  meant_action p P at ρ n k m st here = record {
    writes = λ g w.
        rw (only.at_thread at ρ p P _ (named n g) m, replaced_act placed_at _ at ρ n k p P)
        (writes_returned n (writes_settled P x (rest_at at p) (more ρ) r (named n g) st w));
  }

  meant_copy : (P : Process) (at : ℕ) (ρ : Bound) (n k : ℕ) → over_settling P ρ k ≡ false → (a : LocatedOffer) → Inside (at + 1) P a
      → Meant P (at + 1) ρ k (names P ρ k) a → Meant (Process.repl P) at ρ n k a
  unfolding at_repl opening
  meant_copy P at ρ n k free a i e m st here =
      rw (replaced_copy placed_at (rest a) at ρ n k a.place P i)
      (does_repl P at ρ n (λ copy. opened copy (Build b k) k)
      (λ copy g. ap (λ c. further c (push at (repl ρ P))) (only.in_copy k at P copy g (mark_held mark a.place _ P true m i)))
      (does_opened P (Build b k) x (at + 1) ρ k free (e m st (only.narrow (repl_part at P) here))))

  meant_cases : Cases (λ P at ρ n. (k : ℕ) → Free P ρ n k → Every (Meant P at ρ n k) (located_offers P at ρ n k))
  unfolding said located_offers
  meant_cases = record {
    lead = λ l h k free.
        rw (ap (λ s. s.offers k) l.same)
        (every_map (λ a e m st here.
        does_lead l free.settling
        (rw (ap (λ (s : Said). s.put a.place (rest a) k) l.same) (e m st (only.narrow l.part here))))
        (h k (free_lead l k free)));
    nothing = λ at ρ n k free. none;
    action = λ p P at ρ n k free. meant_action p P at ρ n k also none;
    beside = λ P Q at ρ n p q k free.
        let (f, f') = free_par P Q free in
        every_joined
        (every_map (λ a (e, i) m st here. does_left (only.plain k) P Q at a.place (rest a) k i
        (mark_held mark a.place _ Q false m (left_only a.place at P Q i), only.narrow (right_part at P Q) here) f'.settling
        (e m st (only.narrow (left_part at P Q) here))) (every_and (p k f) (acting_inside P (at + 1) ρ n k)))
        (every_map (λ a (e, i) m st here. does_right (only.plain k) P Q at a.place (rest a) k i
        (mark_held mark a.place _ P false m (right_only a.place at P Q i), only.narrow (left_part at P Q) here) f.settling
        (e m st (only.narrow (right_part at P Q) here))) (every_and (q k f') (acting_inside Q (right_at at P) ρ (names P ρ n) k)));
    copied = λ P at ρ n h k free.
        let f = free_copy P free in
        every_map (λ a (e, i). meant_copy P at ρ n k f.settling a i e)
        (every_and (h k (names P ρ k) f) (acting_inside P (at + 1) ρ k (names P ρ k)));
  }

  pub built_only : (P : Process) (at : ℕ) (ρ : Bound) (n k : ℕ) → Free P ρ n k → Every (Meant P at ρ n k) (located_offers P at ρ n k)
  built_only = by_cases meant_cases
