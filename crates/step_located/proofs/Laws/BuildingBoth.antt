-- What a traversal writes that builds the threads as a step of two threads leaves them ("Steps").
use Prim.Native.Nat.{ℕ, ◌+◌}
use native.Mathlib.Omega.{arith}
use mathlib.Core.Path.{◌≡◌, refl, sym, ◌∙◌, ap, subst}
use mathlib.Core.Bool.{Bool, true, false, ◌||◌, or-false, or_comm, true≢false}
use mathlib.Core.List.{List, [], ◌∷◌}
use lib.Dec.{eqb}
use borrow.Author.Tests.{eq-eqb}
use Rattle.meaning.specs.Messages.Term.{Message}
use Rattle.meaning.specs.Bytes.Process.{Prefix, Process}
use Rattle.meaning.specs.Places.{Every, none, ◌also◌}
use Rattle.meaning.specs.Steps.State.{Bound, ◌▸◌, names}
use Rattle.meaning.specs.Steps.Invariant.{BoundStored}
use Rattle.meaning.specs.Judging.Limits.{over_settling}
use Rattle.meaning.proofs.Every.{every_map, every_joined}
use Rattle.state_record.specs.Place.{right_at}
use Rattle.state_record.specs.Record.{Placed}
use Rattle.state_progress.specs.TraversalResult.{named}
use Rattle.state_task.specs.Machine.{taking}
use Rattle.step_located.specs.Located.{LocatedOffer, located_offers, inside}
use Rattle.step_located.specs.CopyStep.{located_offers_except, pairs, both_replaced_as}
use Rattle.step_located.specs.Rebuilt.{both_replaced_at, rest_of, over_rest, placed_at}
use Rattle.state_task.specs.declared.task.Task.TheVariants.{Build}
use Rattle.state_task.specs.declared.task.Plan.{Plan}
use Rattle.step_located.proofs.Laws.Located.{left_part, right_part, repl_part, part_inside, at_inside, Inside, acting_inside}
use Rattle.step_located.proofs.Laws.Located.{left_only, right_only}
use Rattle.step_located.proofs.Laws.Block.{block_laws, both_outside}
use Rattle.step_located.proofs.Laws.Everywhere.{every_and, every_under, every_flat_map, every_matching}
use Rattle.step_located.proofs.Laws.Leads.{Said, said, Leads, Cases, by_cases}
use Rattle.step_located.proofs.Laws.Rebuilt.{both_neither, both_first}
use Rattle.step_located.proofs.Laws.Marks.{build_plain, sender_only, taker_only, taken}
use Rattle.step_located.proofs.Laws.Traversal.{Free, free_lead, free_par, Does, does_lead, does_par, does_plain}
use Rattle.step_located.proofs.Laws.Building.{mark_held, built_only}

-- The offers of the other threads are at positions of the process too.
others_cases : (x : ℕ) → Cases (λ P at ρ n. (k : ℕ) → Every (Inside at P) (located_offers_except x P at ρ n k))
unfolding said located_offers_except
others_cases x = record {
  lead = λ l h k. rw (ap (λ s. s.others x k) l.same) (every_map (λ a i. part_inside a.place l.part i) (h k));
  nothing = λ at ρ n k. none;
  action = λ p P at ρ n k.
      elim (eqb at x) as (λ b.
      Every (Inside at (Process.act p P))
      (elim b [ true ↦ [] | false ↦ record { place = at; bound = ρ; prefix = p; rest = P; next = k } ∷ [] ]))
      [ true ↦ none | false ↦ at_inside at (Process.act p P) also none ];
  beside = λ P Q at ρ n p q k.
      every_joined (every_map (λ a i. part_inside a.place (left_part at P Q) i) (p k))
      (every_map (λ a i. part_inside a.place (right_part at P Q) i) (q k));
  copied = λ P at ρ n h k.
      elim (inside x (at + 1) P) as (λ b.
      Every (Inside at (Process.repl P)) (elim b [ true ↦ [] | false ↦ located_offers P (at + 1) ρ k (names P ρ k) ]))
      [ true ↦ none | false ↦ every_map (λ a i. part_inside a.place (repl_part at P) i) (acting_inside P (at + 1) ρ k (names P ρ k)) ];
}

others_inside : (x : ℕ) (P : Process) (at : ℕ) (ρ : Bound) (n k : ℕ) → Every (Inside at P) (located_offers_except x P at ρ n k)
others_inside x = by_cases (others_cases x)

module _ (b : Plan) (x : Message) where
  -- What follows the sender a, and what follows the taker c.
  abbrev pub after : LocatedOffer → List Placed
  after a = rest_of a a.bound b.rest

  abbrev pub over_after : LocatedOffer → Bool
  over_after a = over_rest a a.bound b.rest

  abbrev pub under : LocatedOffer → List Placed
  under c = rest_of c (c.bound ▸ x) b.last

  abbrev pub over_under : LocatedOffer → Bool
  over_under c = over_rest c (c.bound ▸ x) b.last

  abbrev pub Sends : LocatedOffer → Type 0
  Sends a = (b.sender ≡ a.place + 1) × BoundStored b.rest a.bound

  abbrev pub Takes : LocatedOffer → Type 0
  Takes c = (b.taker ≡ c.place + 1) × BoundStored b.last (c.bound ▸ x)

  -- A process that has none of the two in it; only the sender; only the taker.
  module _ (P : Process) (at : ℕ) (ρ : Bound) (n k : ℕ) where
    abbrev Left : LocatedOffer → LocatedOffer → Bool → Type 0
    Left a c o = Does (Build b k) x P at ρ n o (both_replaced_at a.place (after a) c.place (under c) P at ρ n k b.second)

    neither_in : over_settling P ρ n ≡ false → (a c : LocatedOffer) → Sends a → Takes c → inside a.place at P ≡ false
        → inside c.place at P ≡ false → Left a c false
    neither_in free a c (s, st) (t, st') out out' =
        rw (both_neither a.place (after a) c.place (under c) P at ρ n k b.second out out')
        (does_plain (build_plain b k x) P at ρ n (mark_held _ a.place at P false s out, mark_held _ c.place at P false t out') free)

    abbrev SenderIn : LocatedOffer → Type 0
    SenderIn a = Sends a → (c : LocatedOffer) → Takes c → inside c.place at P ≡ false → Left a c (over_after a)

    sender_in : Free P ρ n k → Every SenderIn (located_offers P at ρ n k)
    sender_in free =
        every_map (λ a (d, e) (s, st) c (t, st') out.
        rw (e (after a) c.place (under c) b.second out) (d s st (mark_held _ c.place at P false t out)))
        (every_and (built_only b x (sender_only b x) P at ρ n k free) (both_first P at ρ n k))

    abbrev TakerIn : LocatedOffer → Type 0
    TakerIn c = Takes c → (a : LocatedOffer) → Sends a → inside a.place at P ≡ false → Left a c (over_under c)

    taker_in : Free P ρ n b.second → Every TakerIn (located_offers P at ρ n b.second)
    taker_in free =
        every_map (λ c d (t, st') a (s, st) out.
        rw (both_outside placed_at a.place (after a) c.place (under c) P at ρ n k b.second out) (record {
          writes = λ g w.
              rw (taken b k (λ z. omega arith) P x at ρ (named n g) (mark_held _ a.place at P false s out)) ((d t st' tt).writes g w);
        }))
        (built_only (taking b) x (taker_only (taking b) x refl) P at ρ n b.second free)

  -- Both are in it, in different threads.
  abbrev Both : Process → (at : ℕ) → Bound → (n k : ℕ) → LocatedOffer → Type 0
  Both P at ρ n k a =
      Every (λ c. Sends a → Takes c → Left P at ρ n k a c (over_after a || over_under c)) (located_offers_except a.place P at ρ n b.second)

  both_lead : {P P' : Process} {at at' : ℕ} {ρ ρ' : Bound} {n n' : ℕ} → Leads P at ρ n P' at' ρ' n' → over_settling P ρ n ≡ false
      → (k : ℕ) (a : LocatedOffer) → Both P' at' ρ' n' k a → Both P at ρ n k a
  unfolding said
  both_lead l free k a e =
      rw (ap (λ s. s.others a.place b.second) l.same)
      (every_map (λ c f sends takes. does_lead l free
      (rw (ap (λ (s : Said). s.put_both a.place (after a) c.place (under c) k b.second) l.same) (f sends takes))) e)

  no_other_act : (p : Prefix) (P : Process) (at : ℕ) (ρ : Bound) (n k : ℕ)
      → Both (Process.act p P) at ρ n k (record { place = at; bound = ρ; prefix = p; rest = P; next = k })
  unfolding located_offers_except
  no_other_act p P at ρ n k = rw (eq-eqb at at refl, located_offers_except) none

  no_other_copy : (P : Process) (at : ℕ) (ρ : Bound) (n k : ℕ) (a : LocatedOffer) → Inside (at + 1) P a → Both (Process.repl P) at ρ n k a
  unfolding located_offers_except
  no_other_copy P at ρ n k a i = rw (i, located_offers_except) none

  -- The sender is in one of the two processes of a par, and the taker in the same one, or in the other.
  module _ (P Q : Process) (at : ℕ) (ρ : Bound) (n k : ℕ) (free : Free (Process.par P Q) ρ n k)
      (free' : Free (Process.par P Q) ρ n b.second) (a : LocatedOffer) where
    both_left : Inside (at + 1) P a → Both P (at + 1) ρ n k a → SenderIn P (at + 1) ρ n k a → Both (Process.par P Q) at ρ n k a
    unfolding both_replaced_as located_offers_except
    both_left i e s =
        let at' = right_at at P in
        let m = names P ρ n in
        let out = left_only a.place at P Q i in
        let others = (block_laws Q at' ρ m).everyone a.place b.second (λ i'. true≢false (sym i' ∙ out)) in
        every_joined
        (every_map (λ c (f, i') sends takes.
        rw or-false at (does_par P Q (f sends takes)
        (neither_in Q at' ρ m k (free_par P Q free).1.settling a c sends takes out (left_only c.place at P Q i'))))
        (every_and e (others_inside a.place P (at + 1) ρ n b.second)))
        (rw others
        (every_map (λ c (f, i') sends takes. does_par P Q (s sends c takes (right_only c.place at P Q i')) (f takes a sends out))
        (every_and (taker_in Q at' ρ m k (free_par P Q free').1) (acting_inside Q at' ρ m b.second))))

    both_right : Inside (right_at at P) Q a → Both Q (right_at at P) ρ (names P ρ n) k a → SenderIn Q (right_at at P) ρ (names P ρ n) k a
        → Both (Process.par P Q) at ρ n k a
    unfolding both_replaced_as located_offers_except
    both_right i e s =
        let at' = right_at at P in
        let m = names P ρ n in
        let out = right_only a.place at P Q i in
        let others = (block_laws P (at + 1) ρ n).everyone a.place b.second (λ i'. true≢false (sym i' ∙ out)) in
        every_joined {xs = located_offers_except a.place P (at + 1) ρ n b.second}
        (rw others
        (every_map (λ c (f, i') sends takes.
        rw (or_comm (over_after a) (over_under c)) (does_par P Q (f takes a sends out) (s sends c takes (left_only c.place at P Q i'))))
        (every_and (taker_in P (at + 1) ρ n k (free_par P Q free').0) (acting_inside P (at + 1) ρ n b.second))))
        (every_map (λ c (f, i') sends takes.
        does_par P Q
        (neither_in P (at + 1) ρ n k (free_par P Q free).0.settling a c sends takes out (right_only c.place at P Q i'))
        (f sends takes))
        (every_and e (others_inside a.place Q at' ρ m b.second)))

  both_cases : Cases (λ P at ρ n. (k : ℕ) → Free P ρ n k → Free P ρ n b.second → Every (Both P at ρ n k) (located_offers P at ρ n k))
  unfolding said located_offers
  both_cases = record {
    lead = λ l h k free free'.
        rw (ap (λ s. s.offers k) l.same)
        (every_map (λ a e. both_lead l free.settling k a e) (h k (free_lead l k free) (free_lead l b.second free')));
    nothing = λ at ρ n k free free'. none;
    action = λ p P at ρ n k free free'. no_other_act p P at ρ n k also none;
    beside = λ P Q at ρ n p q k free free'.
        let (f, g) = free_par P Q free in
        let (f', g') = free_par P Q free' in
        let at' = right_at at P in
        let m = names P ρ n in
        every_joined
        (every_map (λ a (i, e). both_left P Q at ρ n k free free' a i e.0 e.1)
        (every_and (acting_inside P (at + 1) ρ n k) (every_and (p k f f') (sender_in P (at + 1) ρ n k f))))
        (every_map (λ a (i, e). both_right P Q at ρ n k free free' a i e.0 e.1)
        (every_and (acting_inside Q at' ρ m k) (every_and (q k g g') (sender_in Q at' ρ m k g))));
    copied = λ P at ρ n h k free free'. every_map (λ a i. no_other_copy P at ρ n k a i) (acting_inside P (at + 1) ρ k (names P ρ k));
  }

  -- So for every pair, the taker's copies being opened after the sender's.
  abbrev pub Met : Process → (at : ℕ) → Bound → (n k j : ℕ) → LocatedOffer → LocatedOffer → Type 0
  Met P at ρ n k j a c =
      Sends a → Takes c → Does (Build b k) x P at ρ n (over_after a || over_under c)
      (both_replaced_at a.place (after a) c.place (under c) P at ρ n k j)

  abbrev pub After : Process → Bound → (n : ℕ) → LocatedOffer → Type 0
  After P ρ n a = (b.second ≡ a.next) × Free P ρ n a.next

  with_takers : (P : Process) (at : ℕ) (ρ : Bound) (n k : ℕ) (a : LocatedOffer) → (Free P ρ n b.second → Both P at ρ n k a)
      → Every (λ c. After P ρ n a → Met P at ρ n k a.next a c) (located_offers_except a.place P at ρ n a.next)
  with_takers P at ρ n k a h =
      every_under (located_offers_except a.place P at ρ n a.next) (λ (second, free).
      subst (λ j. Every (Met P at ρ n k j a) (located_offers_except a.place P at ρ n j)) second (h (rw second free)))

  pub built-both : (P : Process) (at : ℕ) (ρ : Bound) (n k : ℕ) → Free P ρ n k
      → Every (λ w. After P ρ n w.sender → Met P at ρ n k w.sender.next w.sender w.taker) (pairs P at ρ n k)
  unfolding pairs
  built-both P at ρ n k free =
      every_flat_map _ (every_map (λ a h. every_flat_map _ (every_map (λ c e. every_matching a c e) (with_takers P at ρ n k a h)))
      (every_under (located_offers P at ρ n k) (λ free'. by_cases both_cases P at ρ n k free free')))
