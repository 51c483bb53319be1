-- What a traversal writes that builds the threads as a silent step of a repl thread leaves them ("Steps").
use Prim.Native.Nat.{ℕ, ◌+◌}
use native.Mathlib.Omega.{arith}
use mathlib.Core.Path.{◌≡◌, refl, sym, ap}
use mathlib.Core.Bool.{Bool, true, false, ◌||◌}
use mathlib.Core.List.{List, ◌++◌}
use borrow.Author.Tests.{eq-eqb, ne_eqb}
use Rattle.meaning.specs.Messages.Term.{Message}
use Rattle.meaning.specs.Bytes.Process.{Process}
use Rattle.meaning.specs.Places.{Every, none}
use Rattle.meaning.specs.Steps.State.{Bound, repl, names}
use Rattle.meaning.proofs.Every.{every_map, every_joined}
use Rattle.state_record.specs.Place.{right_at}
use Rattle.state_record.specs.Record.{Placed}
use Rattle.state_progress.specs.TraversalResult.{Accumulated, TraversalResult, further}
use Rattle.state_task.specs.Machine.{sending, taking, opening, opened, built_copies, at_repl}
use Rattle.state_head.specs.Traversal.{go}
use Rattle.step_located.specs.Located.{located_offers, inside}
use Rattle.step_located.specs.CopyStep.{Pair, pairs, copy_pairs, CopyStep, copy_steps, left_as}
use Rattle.step_located.specs.Rebuilt.{alone, replaced_at, left_at, placed_at}
use Rattle.state_task.specs.declared.task.Task.{Task}
use Rattle.state_task.specs.declared.task.Task.TheVariants.{Build, BuildIn}
use Rattle.state_task.specs.declared.task.CopyAt.{CopyAt}
use Rattle.state_task.specs.declared.task.Plan.{Plan}
use Rattle.step_located.proofs.Laws.Located.{inside_bounds, left_only, right_only, replaced_repl, replaced_copy}
use Rattle.step_located.proofs.Laws.Everywhere.{every_and, every_under, every_mapped, every_flat_map, every_matching}
use Rattle.step_located.proofs.Laws.Leads.{Said, said, Cases, by_cases}
use Rattle.step_located.proofs.Laws.Writing.{writes_further}
use Rattle.step_located.proofs.Laws.Marks.{holds_none, build_in_plain, sender_only, taker_only}
use Rattle.step_located.proofs.Laws.Traversal.{Free, free_lead, free_par, free_copy, Does, does_lead, does_repl, does_opened}
use Rattle.step_located.proofs.Laws.Building.{mark_held, does_left, does_right, built_only}
use Rattle.step_located.proofs.Laws.BuildingBoth.{after, over_after, under, over_under, Sends, Takes, After, Met, built-both}
use Rattle.step_located.proofs.Laws.Copies.{joints_inside}

module _ (b : Plan) (c : CopyAt) (x : Message) where
  -- The silent step w of a repl thread is the one that is meant; and the copies that the taker's side opens meet no limit.
  pub record Chosen (w : CopyStep) : Type 0 where
    pub place : c.place ≡ w.place + 1
    pub arity : c.arity ≡ elim w.two [ true ↦ 2 | false ↦ 1 ]
    pub second : c.second ≡ w.pair.sender.next
    pub inner : b.second ≡ w.pair.sender.next
    pub sends : Sends b x w.pair.sender
    pub takes : Takes b x w.pair.taker
    pub one : w.two ≡ false → Free w.copied w.bound w.opens w.pair.sender.next
    pub both : w.two ≡ true → Free w.copied w.bound w.pair.sender.next (names w.copied w.bound w.pair.sender.next)

  -- What is left of its copies, and the repl thread.
  abbrev pub stepped : CopyStep → List Placed
  stepped w = left_at w (after b x w.pair.sender) (under b x w.pair.taker) ++ alone w.place (repl w.bound w.copied)

  abbrev pub over_stepped : CopyStep → Bool
  over_stepped w = over_after b x w.pair.sender || over_under b x w.pair.taker

  abbrev In : Process → (at : ℕ) → Bound → (n k : ℕ) → CopyStep → Type 0
  In P at ρ n k w = Chosen w → Does (BuildIn b c k) x P at ρ n (over_stepped w) (replaced_at w.place (stepped w) P at ρ n k)

  module _ (P : Process) (at : ℕ) (ρ : Bound) (n k : ℕ) (free : Free P ρ k (names P ρ k)) where
    abbrev own : Bool → Pair → CopyStep
    own two w = record { place = at; bound = ρ; copied = P; opens = k; two = two; pair = w }

    -- Of two threads of one copy; of the threads of two copies; of a repl thread inside a copy.
    in_one : (w : Pair) → (After b x P ρ k w.sender → Met b x P (at + 1) ρ k (names P ρ k) w.sender.next w.sender w.taker)
        → In (Process.repl P) at ρ n k (own false w)
    unfolding at_repl built_copies opening left_as
    in_one w e i =
        rw (replaced_repl placed_at (stepped (own false w)) at ρ n k P)
        (does_repl P at ρ n (λ copy. opened copy (Build b k) k)
        (λ copy g. rw (eq-eqb (at + 1) c.place (sym i.place), i.arity, built_copies))
        (does_opened P (Build b k) x (at + 1) ρ k free.settling (e (i.inner, i.one refl) i.sends i.takes)))

    in_two : (w : Pair) → let j = w.sender.next in
        Does (Build (sending b) (names P ρ k)) x P (at + 1) ρ k (over_after b x w.sender)
        (replaced_at w.sender.place (after b x w.sender) P (at + 1) ρ k (names P ρ k))
        → Does (Build (taking b) (names P ρ j)) x P (at + 1) ρ j (over_under b x w.taker)
        (replaced_at w.taker.place (under b x w.taker) P (at + 1) ρ j (names P ρ j))
        → In (Process.repl P) at ρ n k (own true w)
    unfolding at_repl built_copies opening left_as
    in_two w d e i =
        let j = w.sender.next in
        let second : (Task → Accumulated → TraversalResult) → Accumulated → TraversalResult = λ copy. opened copy (Build (taking b) k) j in
        rw (replaced_repl placed_at (stepped (own true w)) at ρ n k P)
        (does_repl P at ρ n (λ copy g. further (opened copy (Build (sending b) k) k g) (second copy))
        (λ copy g. rw (eq-eqb (at + 1) c.place (sym i.place), i.arity, i.second, built_copies))
        (λ g w'. writes_further (second (λ U. go P U x (at + 1) ρ))
        (does_opened P (Build (sending b) k) x (at + 1) ρ k free.settling d g w')
        (λ w''. does_opened P (Build (taking b) k) x (at + 1) ρ j (i.both refl).settling e _ w'')))

    in_copy : (w : CopyStep) → inside w.place (at + 1) P ≡ true → In P (at + 1) ρ k (names P ρ k) w → In (Process.repl P) at ρ n k w
    unfolding at_repl opening
    in_copy w i e j =
        let bounds = inside_bounds w.place (at + 1) P i in
        let place = j.place in
        rw (replaced_copy placed_at (stepped w) at ρ n k w.place P i)
        (does_repl P at ρ n (λ copy. opened copy (BuildIn b c k) k)
        (λ copy g. rw (ne_eqb (at + 1) c.place (omega arith), mark_held c.place w.place (at + 1) P true place i))
        (does_opened P (BuildIn b c k) x (at + 1) ρ k free.settling (e j)))

    all_one : Every (λ w. In (Process.repl P) at ρ n k (own false w)) (pairs P (at + 1) ρ k (names P ρ k))
    all_one = every_map in_one (built-both b x P (at + 1) ρ k (names P ρ k) free)

    all_two : Every (λ w. In (Process.repl P) at ρ n k (own true w)) (copy_pairs P (at + 1) ρ k)
    unfolding copy_pairs
    all_two =
        every_flat_map _ (every_map (λ a d. every_flat_map _ (every_map (λ t e. every_matching a t (λ i.
        in_two (record { sender = a; taker = t }) (d i.sends.0 i.sends.1 (holds_none (at + 1) P))
        (e (i.both refl) i.takes.0 i.takes.1 tt) i))
        (every_under (located_offers P (at + 1) ρ a.next (names P ρ a.next)) (λ free'.
        built_only (taking b) x (taker_only (taking b) x refl) P (at + 1) ρ a.next (names P ρ a.next) free'))))
        (built_only (sending b) x (sender_only (sending b) x) P (at + 1) ρ k (names P ρ k) free))

  in_cases : Cases (λ P at ρ n. (k : ℕ) → Free P ρ n k → Every (In P at ρ n k) (copy_steps P at ρ n k))
  unfolding said copy_steps
  in_cases = record {
    lead = λ l h k free.
        rw (ap (λ s. s.jointly k) l.same)
        (every_map (λ w e i. does_lead l free.settling
        (rw (ap (λ (s : Said). s.put w.place (stepped w) k) l.same) (e i))) (h k (free_lead l k free)));
    nothing = λ at ρ n k free. none;
    action = λ p P at ρ n k free. none;
    beside = λ P Q at ρ n p q k free.
        let (f, f') = free_par P Q free in
        every_joined
        (every_map (λ w (e, i) (j : Chosen w). does_left (build_in_plain b c k x) P Q at w.place (stepped w) k i
        (mark_held c.place w.place _ Q false j.place (left_only w.place at P Q i)) f'.settling (e j))
        (every_and (p k f) (joints_inside P (at + 1) ρ n k)))
        (every_map (λ w (e, i) (j : Chosen w). does_right (build_in_plain b c k x) P Q at w.place (stepped w) k i
        (mark_held c.place w.place _ P false j.place (right_only w.place at P Q i)) f.settling (e j))
        (every_and (q k f') (joints_inside Q (right_at at P) ρ (names P ρ n) k)));
    copied = λ P at ρ n h k free.
        let f = free_copy P free in
        let m = names P ρ k in
        every_joined
        (every_joined
        (every_map (λ w (e, i). in_copy P at ρ n k f w i e) (every_and (h k m f) (joints_inside P (at + 1) ρ k m)))
        (every_mapped (own P at ρ n k f false) (all_one P at ρ n k f)))
        (every_mapped (own P at ρ n k f true) (all_two P at ρ n k f));
  }

  pub built_in : (P : Process) (at : ℕ) (ρ : Bound) (n k : ℕ) → Free P ρ n k → Every (In P at ρ n k) (copy_steps P at ρ n k)
  built_in = by_cases in_cases
