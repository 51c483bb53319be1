-- What a step of one thread, or of two threads of a process, leaves: the rests, among threads that meet no limit ("Judging and its
-- count").
use Prim.Native.Nat.{ℕ, ◌+◌, ◌≤◌}
use native.Mathlib.Omega.{arith}
use native.Mathlib.Nat.{le_refl}
use mathlib.Core.Path.{◌≡◌, ap}
use mathlib.Core.Bool.{false}
use mathlib.Core.List.{List}
use Rattle.meaning.specs.Bytes.Process.{Prefix, Process}
use Rattle.meaning.specs.Places.{Every, none, ◌also◌}
use Rattle.meaning.specs.Steps.State.{Bound, act, repl, names, settle}
use Rattle.meaning.specs.Steps.Invariant.{BoundStored}
use Rattle.meaning.specs.Steps.Copies.{result_of}
use Rattle.meaning.specs.Judging.Limits.{over_prefix, over_offers}
use Rattle.meaning.proofs.Every.{every_map, every_joined, every_parts}
use Rattle.state_record.specs.Place.{right_at}
use Rattle.state_record.specs.Record.{Placed}
use Rattle.step_located.specs.Located.{LocatedOffer, located_offers, replaced_as}
use Rattle.step_located.specs.Rebuilt.{replaced_at, placed_at}
use Rattle.step_located.proofs.Laws.Located.{acting_inside, left_only, right_only, replaced_act, replaced_copy}
use Rattle.step_located.proofs.Laws.Everywhere.{every_and}
use Rattle.step_located.proofs.Laws.Leads.{Said, said, Cases, by_cases}
use Rattle.step_located.proofs.Laws.Rebuilt.{replaced_at_outside}
use Rattle.state_layout.specs.Loaded.{BoundSmall}
use Rattle.step_transition.proofs.Laws.LimitsLeft.{Clear, all_later, clear_later, clear_copy}
use Rattle.step_transition.proofs.Laws.LimitsLeft.{Left, left_whole, left_behind, left_before, settled_clear}

-- The messages of an offer have private names below its next one, which is not before k, and are small; it meets no limit itself.
pub record Opens (k : ℕ) (a : LocatedOffer) : Type 0 where
  pub later : k ≤ a.next
  pub stored : BoundStored a.next a.bound
  pub small : BoundSmall a.bound
  pub allowed : over_prefix a.bound a.prefix a.rest a.next ≡ false

pub opens_before : {k m : ℕ} → k ≤ m → (a : LocatedOffer) → Opens m a → Opens k a
opens_before le a o = record { later = omega (arith, o.later); stored = o.stored; small = o.small; allowed = o.allowed }

own_allowed : (ρ : Bound) (p : Prefix) (P : Process) (k : ℕ) → over_offers (act ρ p P) k ≡ false → over_prefix ρ p P k ≡ false
unfolding over_offers result_of
own_allowed ρ p P k e = e

-- A thread acts, and a list takes its place.
pub record Replaces (P : Process) (at : ℕ) (ρ : Bound) (n k : ℕ) (a : LocatedOffer) : Type 0 where
  pub opens : Opens k a
  pub left : (z : List Placed) (j : ℕ) → a.next ≤ j → Left j z (replaced_at a.place z P at ρ n k)

replaces_cases : Cases (λ P at ρ n. (k : ℕ) → Every (Clear k) (settle P ρ n) → Every (Replaces P at ρ n k) (located_offers P at ρ n k))
unfolding said located_offers settle replaced_as
replaces_cases = record {
  lead = λ l h k c.
      rw (ap (λ s. s.offers k) l.same)
      (every_map (λ a r. record {
        opens = r.opens;
        left = λ z j le. rw (ap (λ (s : Said). s.put a.place z k) l.same) (r.left z j le);
      }) (h k (rw (ap (λ s. s.threads) l.same) at c)));
  nothing = λ at ρ n k c. none;
  action = λ p P at ρ n k c. in_action p P at ρ n k c also none;
  beside = λ P Q at ρ n p q k c.
      let (c₁, c₂) = every_parts (settle P ρ n) c in
      every_joined
      (every_map (λ a (r, i). record {
        opens = r.opens;
        left = λ z j le.
            let out = replaced_at_outside a.place z Q (right_at at P) ρ (names P ρ n) k (left_only a.place at P Q i) in
            rw out (left_behind (settled_clear Q (right_at at P) ρ (names P ρ n) (all_later (omega (arith, r.opens.later)) c₂)) (r.left z j le));
      }) (every_and (p k c₁) (acting_inside P (at + 1) ρ n k)))
      (every_map (λ a (r, i). record {
        opens = r.opens;
        left = λ z j le.
            let out = replaced_at_outside a.place z P (at + 1) ρ n k (right_only a.place at P Q i) in
            rw out (left_before (settled_clear P (at + 1) ρ n (all_later (omega (arith, r.opens.later)) c₁)) (r.left z j le));
      }) (every_and (q k c₂) (acting_inside Q (right_at at P) ρ (names P ρ n) k)));
  copied = λ P at ρ n h k c. in_copy P at ρ n h k c;
}
  where
    in_action : (p : Prefix) (P : Process) (at : ℕ) (ρ : Bound) (n k : ℕ) → Every (Clear k) (settle (Process.act p P) ρ n)
        → Replaces (Process.act p P) at ρ n k (record { place = at; bound = ρ; prefix = p; rest = P; next = k })
    in_action p P at ρ n k (c also cs) = record {
      opens = record { later = le_refl k; stored = c.stored; small = c.small; allowed = own_allowed ρ p P k c.free };
      left = λ z j le. rw (replaced_act placed_at z at ρ n k p P) left_whole;
    }

    in_copy : (P : Process) (at : ℕ) (ρ : Bound) (n : ℕ)
        → ((m k : ℕ) → Every (Clear k) (settle P ρ m) → Every (Replaces P (at + 1) ρ m k) (located_offers P (at + 1) ρ m k))
        → (k : ℕ) → Every (Clear k) (settle (Process.repl P) ρ n)
        → Every (Replaces (Process.repl P) at ρ n k) (located_offers P (at + 1) ρ k (names P ρ k))
    in_copy P at ρ n h k (c also cs) =
        let (later, copy) = clear_copy P c in
        every_map (λ a (r, i). record {
          opens = opens_before later a r.opens;
          left = λ z j le.
              rw (replaced_copy placed_at z at ρ n k a.place P i)
              (left_behind (clear_later (omega (arith, r.opens.later)) (repl ρ P) c also none) (r.left z j le));
        }) (every_and (h k (names P ρ k) copy) (acting_inside P (at + 1) ρ k (names P ρ k)))

pub replaces : (P : Process) (at : ℕ) (ρ : Bound) (n k : ℕ) → Every (Clear k) (settle P ρ n)
    → Every (Replaces P at ρ n k) (located_offers P at ρ n k)
replaces = by_cases replaces_cases
