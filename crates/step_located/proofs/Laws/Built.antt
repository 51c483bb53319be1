-- What the traversals come to that build the threads as a step leaves them ("Steps", "Judging and its count"): the threads are written one
-- after the other, unless what follows an acting thread meets a limit of its own.
use Prim.Native.Nat.{ℕ, ◌+◌, ◌≤◌}
use mathlib.Core.Path.{◌≡◌}
use mathlib.Core.Bool.{Bool, false, ◌||◌}
use mathlib.Core.List.{List}
use lib.ListN.{length}
use Rattle.meaning.specs.Messages.Term.{Message}
use Rattle.meaning.specs.Bytes.Process.{Process}
use Rattle.meaning.specs.Places.{Every}
use Rattle.meaning.specs.Steps.State.{Bound, names}
use Rattle.meaning.specs.Steps.Invariant.{BoundStored}
use Rattle.meaning.specs.Judging.Limits.{over_settling}
use Rattle.meaning.proofs.Every.{every_map}
use Rattle.state_record.specs.Record.{Placed}
use Rattle.state_progress.specs.TraversalResult.{Accumulated, unless, returned}
use Rattle.state_head.specs.Traversal.{go}
use Rattle.step_located.specs.Located.{located_offers}
use Rattle.step_located.specs.CopyStep.{pairs, copy_steps}
use Rattle.state_head.specs.Settled.{settled_at}
use Rattle.step_located.specs.Rebuilt.{replaced_at, both_replaced_at, rest_of, over_rest, push_all}
use Rattle.state_task.specs.declared.task.Task.{Task}
use Rattle.state_task.specs.declared.task.Task.TheVariants.{Build, BuildIn}
use Rattle.state_task.specs.declared.task.CopyAt.{CopyAt}
use Rattle.state_task.specs.declared.task.Plan.{Plan}
use Rattle.state_head.proofs.Laws.Crowd.{roomy}
use Rattle.step_located.proofs.Laws.Writing.{writes_all}
use Rattle.step_located.proofs.Laws.Marks.{Out, Only, holds_none, build_plain, sender_only, taker_only}
use Rattle.step_located.proofs.Laws.Traversal.{Free, Does, does_plain}
use Rattle.step_located.proofs.Laws.Building.{built_only}
use Rattle.step_located.proofs.Laws.BuildingBoth.{after, over_after, under, over_under, Sends, Takes, After, built-both}
use Rattle.step_located.proofs.Laws.BuildingIn.{Chosen, stepped, over_stepped, built_in}

-- A traversal that starts within the limits.
module _ (P : Process) (x : Message) (at : ℕ) (ρ : Bound) (g : Accumulated) (few : length g.threads ≤ 32) (small : g.nodes ≤ 1024) where
  -- It writes the threads ps, unless o says that it meets a limit.
  abbrev pub Leaves : Task → Bool → List Placed → Type 0
  Leaves T o ps = go P T x at ρ g ≡ returned (names P ρ g.names) (unless o (push_all ps g))

  does_leaves : {T : Task} {o : Bool} {ps : List Placed} → Does T x P at ρ g.names o ps → Leaves T o ps
  does_leaves d = writes_all (roomy g few small) (d.writes g (roomy g few small))

  -- No thread of the process acts.
  pub built_none : (b : Plan) (k : ℕ) → Out b.sender at P → Out b.taker at P → over_settling P ρ g.names ≡ false
      → Leaves (Build b k) false (settled_at P at ρ g.names)
  built_none b k s t free = does_leaves (does_plain (build_plain b k x) P at ρ g.names (s, t) free)

  -- One thread acts: a sender alone, or a taker alone.
  module _ (b : Plan) (k : ℕ) (free : Free P ρ g.names k) where
    pub built_one : {R : (at : ℕ) → Process → Type 0} {mark r : ℕ} {more : Bound → Bound} → Only R b x mark r more → R at P
        → Every (λ a. mark ≡ a.place + 1 → BoundStored r (more a.bound)
        → Leaves (Build b k) (over_rest a (more a.bound) r) (replaced_at a.place (rest_of a (more a.bound) r) P at ρ g.names k))
        (located_offers P at ρ g.names k)
    built_one only here = every_map (λ a d m st. does_leaves (d m st here)) (built_only b x only P at ρ g.names k free)

    pub built_sender : b.taker ≡ 0 → Every (λ a. Sends b x a → Leaves (Build b k) (over_after b x a)
        (replaced_at a.place (after b x a) P at ρ g.names k)) (located_offers P at ρ g.names k)
    built_sender z = every_map (λ a d (m, st). d m st) (built_one (sender_only b x) (rw z (holds_none at P)))

    pub built_taker : b.sender ≡ 0 → Every (λ a. Takes b x a → Leaves (Build b k) (over_under b x a)
        (replaced_at a.place (under b x a) P at ρ g.names k)) (located_offers P at ρ g.names k)
    built_taker z = every_map (λ a d (m, st). d m st) (built_one (taker_only b x z) tt)

    -- Two threads act, of which the taker's copies open after the sender's.
    pub built_both : Every (λ w. After b x P ρ g.names w.sender → Sends b x w.sender → Takes b x w.taker
        → Leaves (Build b k) (over_after b x w.sender || over_under b x w.taker)
        (both_replaced_at w.sender.place (after b x w.sender) w.taker.place (under b x w.taker) P at ρ g.names k
        w.sender.next)) (pairs P at ρ g.names k)
    built_both = every_map (λ w d j s t. does_leaves (d j s t)) (built-both b x P at ρ g.names k free)

    -- The copies of a repl thread act.
    pub built_within : (c : CopyAt) → Every (λ w. Chosen b c x w → Leaves (BuildIn b c k) (over_stepped b c x w)
        (replaced_at w.place (stepped b c x w) P at ρ g.names k)) (copy_steps P at ρ g.names k)
    built_within c = every_map (λ w d j. does_leaves (d j)) (built_in b c x P at ρ g.names k free)
