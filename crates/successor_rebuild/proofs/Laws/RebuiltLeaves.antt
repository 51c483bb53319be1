-- What the tasks of a step leave of one thread: its rests among what it was ("Steps"; "Judging and its count").
use mathlib.Core.Path.{◌≡◌, refl, sym, ◌∙◌, subst}
use mathlib.Core.Bool.{Bool, true, false, true≢false}
use mathlib.Core.List.{List, [], ◌∷◌}
use Prim.Native.Nat.{ℕ, ◌+◌, ◌≤◌}
use native.Mathlib.Omega.{arith}
use native.Mathlib.Nat.{le_refl}
use lib.ListN.{length}
use Rattle.meaning.specs.Messages.Term.{Message}
use Rattle.meaning.specs.Places.{Every, none, ◌also◌}
use Rattle.meaning.specs.Steps.State.{Thread, act, repl, names}
use Rattle.meaning.proofs.Every.{every_map, every_joined}
use Rattle.meaning.proofs.Steps.Invariant.Settling.{thread_later}
use Rattle.meaning.proofs.Judging.Alike.{copies_alike}
use Rattle.state_record.specs.Record.{Placed, process_of, bound_of}
use Rattle.state_progress.specs.TraversalResult.{Accumulated, unless, returned}
use Rattle.state_head.specs.News.{later_news}
use Rattle.state_task.specs.declared.task.Task.{Task}
use Rattle.state_task.specs.declared.task.Task.TheVariants.{Build, BuildIn}
use Rattle.state_task.specs.declared.task.CopyAt.{CopyAt}
use Rattle.state_task.specs.declared.task.Plan.{Plan}
use Rattle.state_head.proofs.Laws.Crowd.{crowded, roomy}
use Rattle.step_located.specs.Located.{LocatedOffer, located_offers, replaced_as}
use Rattle.step_located.specs.CopyStep.{pairs, copy_pairs, CopyStep, copy_steps}
use Rattle.step_located.specs.Sought.{Opened}
use Rattle.step_located.specs.Rebuilt.{replaced_at, push_all}
use Rattle.step_located.proofs.Laws.Copies as traverses
use Rattle.step_located.proofs.Laws.Copies.{joint_of, copies_steps}
use Rattle.step_located.proofs.Laws.Everywhere.{every_and, every_under, every_mapped, every_flat_map, every_matching}
use Rattle.step_located.proofs.Laws.Traversal.{Free, free_later, free_opened}
use Rattle.step_located.proofs.Laws.Writing.{writes_returned, push_all_writes}
use Rattle.step_located.proofs.Laws.BuildingBoth.{after, over_after, under, over_under, Sends, Takes}
use Rattle.step_located.proofs.Laws.BuildingIn.{Chosen, stepped, over_stepped}
use Rattle.step_located.proofs.Laws.Built as built
use Rattle.step_located.proofs.Laws.Built.{built_sender, built_taker, built_within}
use Rattle.step_transition.specs.Focus.{offers_of, copy_steps_of}
use Rattle.step_transition.specs.Outcome.{replaced_in}
use Rattle.step_transition.specs.Threads.{Judged}
use Rattle.step_transition.proofs.Laws.LimitsReplaced.{Opens, replaces}
use Rattle.step_transition.proofs.Laws.LimitsPairs.{PairOpens}
use Rattle.step_transition.proofs.Laws.LimitsJoints.{joins}
use Rattle.step_transition.proofs.Laws.Opened.{Opening, opened_all, names_later, acting_all, judged_clear, judged_free}
use Rattle.successor_rebuild.proofs.Laws.Rebuilt.{Leaves, every}

-- A thread meets no limit later either.
pub judged_later : {k j : ℕ} (t : Placed) → k ≤ j → Judged k t → Judged j t
judged_later {k} {j} t le h = record {
  free = copies_alike t.thread k j h.stored le ∙ h.free;
  stored = thread_later le t.thread h.stored;
  light = h.light;
  small = h.small;
}

-- The private name at which a thread of a state is settled does not matter, and it is given back.
module _ (t : Placed) (n : ℕ) where
  names_settled : names (process_of t.thread) (bound_of t.thread) n ≡ n
  unfolding names
  names_settled = of t.thread
    where
      of : (u : Thread) → names (process_of u) (bound_of u) n ≡ n
      of (act ρ p P) = refl
      of (repl ρ P) = refl

  offers_settled : (k : ℕ) → located_offers (process_of t.thread) t.place (bound_of t.thread) n k ≡ offers_of t k
  unfolding located_offers
  offers_settled k = of t.thread
    where
      of : (u : Thread) → located_offers (process_of u) t.place (bound_of u) n k ≡ located_offers (process_of u) t.place (bound_of u) 0 k
      of (act ρ p P) = refl
      of (repl ρ P) = refl

  joints_settled : (k : ℕ) → copy_steps (process_of t.thread) t.place (bound_of t.thread) n k ≡ copy_steps_of t k
  unfolding copy_steps
  joints_settled k = of t.thread
    where
      of : (u : Thread) → copy_steps (process_of u) t.place (bound_of u) n k ≡ copy_steps (process_of u) t.place (bound_of u) 0 k
      of (act ρ p P) = refl
      of (repl ρ P) = refl

  replaced_settled : (x k : ℕ) (z : List Placed)
      → replaced_at x z (process_of t.thread) t.place (bound_of t.thread) n k ≡ replaced_in t x k z
  unfolding replaced_as
  replaced_settled x k z = of t.thread
    where
      of : (u : Thread) → replaced_at x z (process_of u) t.place (bound_of u) n k ≡ replaced_at x z (process_of u) t.place (bound_of u) 0 k
      of (act ρ p P) = refl
      of (repl ρ P) = refl

returned_same : (o : Bool) (z : List Placed) (g : Accumulated) → crowded g ≡ false → returned g.names (unless o (push_all z g)) ≡ unless o (push_all z g)
returned_same true z g w = refl
returned_same false z g w = let p = push_all_writes z g w in (writes_returned g.names p).is ∙ sym p.is

-- A start within the limits, with a plan and a message; what holds for every start.
record Call : Type 0 where
  plan : Plan
  copy : CopyAt
  message : Message
  going : Accumulated
  few : length going.threads ≤ 32
  light : going.nodes ≤ 1024

every_for : {A B : Type 0} {Q : B → A → Type 0} (xs : List A) → ((b : B) → Every (Q b) xs) → Every (λ x. (b : B) → Q b x) xs
every_for {A} {B} {Q} [] h = none
every_for {A} {B} {Q} (x ∷ xs) h = (λ b. first (h b)) also every_for xs (λ b. others (h b))
  where
    first : {b : B} → Every (Q b) (x ∷ xs) → Q b x
    first (q also qs) = q

    others : {b : B} → Every (Q b) (x ∷ xs) → Every (Q b) xs
    others (q also qs) = qs

-- An offer of a thread: its messages, and what is left of the thread if it sends, or takes, alone.
pub record Offers (t : Placed) (k : ℕ) (a : LocatedOffer) : Type 0 where
  pub opens : Opens k a
  pub sender : (b : Plan) (x : Message) → b.taker ≡ 0 → Sends b x a
      → Leaves t (Build b k) x (over_after b x a) (replaced_in t a.place k (after b x a))
  pub taker : (b : Plan) (x : Message) → b.sender ≡ 0 → Takes b x a
      → Leaves t (Build b k) x (over_under b x a) (replaced_in t a.place k (under b x a))

-- A silent step of a thread: its messages, that the copies of the taker meet no limit, and what is left of the thread.
pub record Copied (w : CopyStep) : Type 0 where
  pub one : w.two ≡ false → Free w.copied w.bound w.opens w.pair.sender.next
  pub both : w.two ≡ true → Free w.copied w.bound w.pair.sender.next (names w.copied w.bound w.pair.sender.next)

pub record LeavesCopyStep (t : Placed) (k : ℕ) (w : CopyStep) : Type 0 where
  pub opens : PairOpens k w.pair
  pub copied : Copied w
  pub left : (b : Plan) (c : CopyAt) (x : Message) → Chosen b c x w
      → Leaves t (BuildIn b c k) x (over_stepped b c x w) (replaced_in t w.place k (stepped b c x w))

module _ (t : Placed) (k : ℕ) (j : Judged k t) where
  abbrev Traversed : (c : Call) → Task → Bool → List Placed → Type 0
  Traversed c T o ps =
      built.Leaves (process_of t.thread) c.message t.place (bound_of t.thread) c.going c.few c.light T o ps

  abbrev placed : (c : Call) → (y : ℕ) → List Placed → List Placed
  placed c y z = replaced_at y z (process_of t.thread) t.place (bound_of t.thread) c.going.names k

  leaves : (T : Task) (x : Message) (o : Bool) (y : ℕ) (z : List Placed)
      → ((g : Accumulated) (few : length g.threads ≤ 32) (light : g.nodes ≤ 1024)
      → built.Leaves (process_of t.thread) x t.place (bound_of t.thread) g few light T o
      (replaced_at y z (process_of t.thread) t.place (bound_of t.thread) g.names k))
      → Leaves t T x o (replaced_in t y k z)
  leaves T x o y z f = record {
    exact = λ g few light.
        f g few light ∙ rw (names_settled t g.names, replaced_settled t g.names y k z)
        (returned_same o (replaced_in t y k z) g (roomy g few light));
  }

  senders : Every (λ a. (c : Call) → c.plan.taker ≡ 0 → Sends c.plan c.message a
      → Traversed c (Build c.plan k) (over_after c.plan c.message a) (placed c a.place (after c.plan c.message a))) (offers_of t k)
  senders = every_for (offers_of t k) (λ c. every_under (offers_of t k) (λ z.
      subst (Every _) (offers_settled t c.going.names k)
      (built_sender _ c.message t.place _ c.going c.few c.light c.plan k (judged_free t c.going.names j) z)))

  takers : Every (λ a. (c : Call) → c.plan.sender ≡ 0 → Takes c.plan c.message a
      → Traversed c (Build c.plan k) (over_under c.plan c.message a) (placed c a.place (under c.plan c.message a))) (offers_of t k)
  takers = every_for (offers_of t k) (λ c. every_under (offers_of t k) (λ z.
      subst (Every _) (offers_settled t c.going.names k)
      (built_taker _ c.message t.place _ c.going c.few c.light c.plan k (judged_free t c.going.names j) z)))

  joined : Every (λ w. (c : Call) → Chosen c.plan c.copy c.message w
      → Traversed c (BuildIn c.plan c.copy k) (over_stepped c.plan c.copy c.message w)
      (placed c w.place (stepped c.plan c.copy c.message w))) (copy_steps_of t k)
  joined = every_for (copy_steps_of t k) (λ c.
      subst (Every _) (joints_settled t c.going.names k)
      (built_within _ c.message t.place _ c.going c.few c.light c.plan k (judged_free t c.going.names j) c.copy))

  -- So for every offer, and for every silent step.
  pub offers_known : Every (Offers t k) (offers_of t k)
  offers_known =
      every_map (λ a (r, w). record {
        opens = r.opens;
        sender = λ b x z m. leaves (Build b k) x _ a.place _ (λ g few light. w.0 (call b x g few light) z m);
        taker = λ b x z m. leaves (Build b k) x _ a.place _ (λ g few light. w.1 (call b x g few light) z m);
      }) (every_and (replaces _ _ _ 0 k (judged_clear t 0 j)) (every_and senders takers))
    where
      call : Plan → Message → (g : Accumulated) → length g.threads ≤ 32 → g.nodes ≤ 1024 → Call
      call b x g few light =
          record { plan = b; copy = record { place = 0; arity = 0; second = 0 }; message = x; going = g; few = few; light = light }

  -- The copies of a silent step: of one copy, and of two.
  copied_own : (w : Opened) → Opening k (later_news (process_of t.thread)) w → Every Copied (traverses.copy_steps_of w)
  unfolding pairs copy_pairs
  copied_own w o =
      let P = w.copied in
      let own = names P w.bound w.opens in
      let acts = acting_all P (w.place + 1) w.bound w.opens own in
      every_joined
      (every_mapped (joint_of w false) (every_flat_map _ (every_map (λ a h.
      every_flat_map _ (every (λ c. every_matching a c (record {
        one = λ e. free_later P own a.next o.stored (le_refl own) h.later o.free;
        both = λ e. absurd (true≢false (sym e));
      })) _)) acts)))
      (every_mapped (joint_of w true) (every_flat_map _ (every_map (λ a h.
      every_flat_map _ (every (λ c. every_matching a c (record {
        one = λ e. absurd (true≢false e);
        both = λ e.
            free_opened P w.opens a.next o.stored (le_refl w.opens) (omega (arith, h.later, names_later P w.bound w.opens))
            o.free;
      })) _)) acts)))

  copied_all : Every Copied (copy_steps_of t k)
  copied_all =
      rw (copies_steps (process_of t.thread) t.place (bound_of t.thread) 0 k)
      (every_flat_map _ (every_map copied_own (opened_all (process_of t.thread) t.place (bound_of t.thread) 0 k (judged_clear t 0 j))))

  pub joints_known : Every (LeavesCopyStep t k) (copy_steps_of t k)
  joints_known =
      every_map (λ w (r, s). record {
        opens = r.opens;
        copied = s.0;
        left = λ b c x m. leaves (BuildIn b c k) x _ w.place _ (λ g few light.
            s.1 (record { plan = b; copy = c; message = x; going = g; few = few; light = light }) m);
      }) (every_and (joins _ _ _ 0 k (judged_clear t 0 j)) (every_and copied_all joined))
