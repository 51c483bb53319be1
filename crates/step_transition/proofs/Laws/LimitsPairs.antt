-- What a silent step of two threads of a process leaves: the two rests, among threads that meet no limit ("Judging and its count").
use Prim.Native.Nat.{ℕ, ◌+◌, ◌≤◌}
use native.Mathlib.Omega.{arith}
use mathlib.Core.Path.{◌≡◌, refl, sym, ◌∙◌, ap}
use mathlib.Core.Bool.{true, false, true≢false}
use mathlib.Core.List.{List, [], ◌∷◌, ◌++◌}
use lib.Dec.{eqb}
use borrow.Author.Tests.{eq-eqb}
use Rattle.meaning.specs.Messages.Term.{nodes}
use Rattle.meaning.specs.Messages.Normal.{normal}
use Rattle.meaning.specs.Bytes.Process.{Prefix, output, input, Process}
use Rattle.meaning.specs.Places.{Every, none, ◌also◌}
use Rattle.meaning.specs.Steps.State.{Bound, ◌▸◌, worked, names, settle}
use Rattle.meaning.specs.Steps.Invariant.{BoundStored}
use Rattle.meaning.specs.Judging.Limits.{over, over_prefix}
use Rattle.meaning.proofs.Test.{neither}
use Rattle.meaning.proofs.Every.{every_map, every_joined, every_parts}
use Rattle.meaning.proofs.Steps.Invariant.Settling.{bound_later}
use Rattle.state_record.specs.Place.{right_at}
use Rattle.state_record.specs.Record.{Placed}
use Rattle.step_located.specs.Located.{LocatedOffer, located_offers, inside}
use Rattle.step_located.specs.CopyStep.{Pair, located_offers_except, pairs, message_of, both_replaced_as}
use Rattle.step_located.specs.Rebuilt.{both_replaced_at, placed_at}
use Rattle.step_located.proofs.Laws.Located.{Inside, acting_inside, left_only, right_only}
use Rattle.step_located.proofs.Laws.Block.{block_laws, both_outside}
use Rattle.step_located.proofs.Laws.Everywhere.{every_and, every_flat_map, every_matching}
use Rattle.step_located.proofs.Laws.Leads.{Leads, Said, said, Cases, by_cases}
use Rattle.step_located.proofs.Laws.Rebuilt.{both_neither, both_first}
use Rattle.step_transition.specs.Outcome.{sent_by}
use Rattle.state_layout.specs.Loaded.{BoundSmall}
use Rattle.state_layout.proofs.Laws.Small.{worked_small}
use Rattle.step_transition.proofs.Laws.LimitsLeft.{Clear, all_later, Left, left_joined, left_swapped, left_behind, left_before, settled_clear}
use Rattle.step_transition.proofs.Laws.LimitsReplaced.{Opens, replaces}

-- The message of an offer that meets no limit.
pub sent_small : (ρ : Bound) (p : Prefix) (P : Process) (n : ℕ) → over_prefix ρ p P n ≡ false → nodes (worked ρ (message_of p)) ≤ 255
unfolding normal
sent_small ρ (output C M) P n e = worked_small ρ M (neither (over ρ C) _ e).1
sent_small ρ (input C) P n e = omega arith

-- The offers of the other threads are some of the offers.
but_cases : (x : ℕ) {Q : LocatedOffer → Type 0}
    → Cases (λ P at ρ n. (k : ℕ) → Every Q (located_offers P at ρ n k) → Every Q (located_offers_except x P at ρ n k))
unfolding said located_offers located_offers_except
but_cases x {Q} = record {
  lead = λ l h k e.
      rw (ap (λ (s : Said). s.others x k) l.same) (h k (rw (ap (λ (s : Said). s.offers k) l.same) at e));
  nothing = λ at ρ n k e. none;
  action = λ p P at ρ n k e.
      elim (eqb at x) as (λ b.
      Every Q (elim b [ true ↦ [] | false ↦ record { place = at; bound = ρ; prefix = p; rest = P; next = k } ∷ [] ]))
      [ true ↦ none | false ↦ e ];
  beside = λ P Q at ρ n p q k e.
      let (e₁, e₂) = every_parts (located_offers P (at + 1) ρ n k) e in
      every_joined (p k e₁) (q k e₂);
  copied = λ P at ρ n h k e.
      elim (inside x (at + 1) P) as (λ b. Every Q (elim b [ true ↦ [] | false ↦ located_offers P (at + 1) ρ k (names P ρ k) ]))
      [ true ↦ none | false ↦ e ];
}

pub but_every : (x : ℕ) {Q : LocatedOffer → Type 0} (P : Process) (at : ℕ) (ρ : Bound) (n k : ℕ) → Every Q (located_offers P at ρ n k)
    → Every Q (located_offers_except x P at ρ n k)
but_every x = by_cases (but_cases x)

-- The thread a sends, at k, and the thread c takes, at m.
abbrev BothLeft : Process → (at : ℕ) → Bound → (n k m : ℕ) → (a c : LocatedOffer) → Type 0
BothLeft P at ρ n k m a c =
    (zx zy : List Placed) (j : ℕ) → a.next ≤ j → c.next ≤ j
    → Left j (zx ++ zy) (both_replaced_at a.place zx c.place zy P at ρ n k m)

abbrev Takers : Process → (at : ℕ) → Bound → (n k : ℕ) → LocatedOffer → Type 0
Takers P at ρ n k a = (m : ℕ) → k ≤ m → Every (BothLeft P at ρ n k m a) (located_offers_except a.place P at ρ n m)

no_taker_act : (p : Prefix) (P : Process) (at : ℕ) (ρ : Bound) (n k : ℕ)
    → Takers (Process.act p P) at ρ n k (record { place = at; bound = ρ; prefix = p; rest = P; next = k })
unfolding located_offers_except
no_taker_act p P at ρ n k m le = rw (eq-eqb at at refl, located_offers_except) none

no_taker_copy : (P : Process) (at : ℕ) (ρ : Bound) (n k : ℕ) (a : LocatedOffer) → Inside (at + 1) P a → Takers (Process.repl P) at ρ n k a
unfolding located_offers_except
no_taker_copy P at ρ n k a i m le = rw (i, located_offers_except) none

-- The sender is in one of the two processes of a par, and the taker in the same one, or in the other.
module _ (P Q : Process) (at : ℕ) (ρ : Bound) (n k : ℕ) (p : Every (Clear k) (settle P ρ n)) (q : Every (Clear k) (settle Q ρ (names P ρ n)))
    (a : LocatedOffer) where
  abbrev First : Process → (at : ℕ) → (n : ℕ) → Type 0
  First R at' n' =
      (zx : List Placed) (y : ℕ) (zy : List Placed) (m j : ℕ) → a.next ≤ j → inside y at' R ≡ false
      → Left j zx (both_replaced_at a.place zx y zy R at' ρ n' k m)

  takers_left : Inside (at + 1) P a → k ≤ a.next → First P (at + 1) n → Takers P (at + 1) ρ n k a → Takers (Process.par P Q) at ρ n k a
  unfolding both_replaced_as located_offers_except
  takers_left i later f e m le =
      let at' = right_at at P in
      let n' = names P ρ n in
      let out = left_only a.place at P Q i in
      let others = (block_laws Q at' ρ n').everyone a.place m (λ i'. true≢false (sym i' ∙ out)) in
      every_joined
      (every_map (λ c (h, i') zx zy j l l'.
      rw (both_neither a.place zx c.place zy Q at' ρ n' k m out (left_only c.place at P Q i'))
      (left_behind (settled_clear Q at' ρ n' (all_later (omega arith) q)) (h zx zy j l l')))
      (every_and (e m le) (but_every a.place P (at + 1) ρ n m (acting_inside P (at + 1) ρ n m))))
      (rw others
      (every_map (λ c (r, i') zx zy j l l'.
      rw (both_outside placed_at a.place zx c.place zy Q at' ρ n' k m out)
      (left_joined (f zx c.place zy m j l (right_only c.place at P Q i')) (r.left zy j l')))
      (every_and (replaces Q at' ρ n' m (all_later le q)) (acting_inside Q at' ρ n' m))))

  takers_right : Inside (right_at at P) Q a → k ≤ a.next → First Q (right_at at P) (names P ρ n)
      → Takers Q (right_at at P) ρ (names P ρ n) k a → Takers (Process.par P Q) at ρ n k a
  unfolding both_replaced_as located_offers_except
  takers_right i later f e m le =
      let at' = right_at at P in
      let n' = names P ρ n in
      let out = right_only a.place at P Q i in
      let others = (block_laws P (at + 1) ρ n).everyone a.place m (λ i'. true≢false (sym i' ∙ out)) in
      every_joined {xs = located_offers_except a.place P (at + 1) ρ n m}
      (rw others
      (every_map (λ c (r, i') zx zy j l l'.
      rw (both_outside placed_at a.place zx c.place zy P (at + 1) ρ n k m out)
      (left_swapped zy zx (left_joined (r.left zy j l') (f zx c.place zy m j l (left_only c.place at P Q i')))))
      (every_and (replaces P (at + 1) ρ n m (all_later le p)) (acting_inside P (at + 1) ρ n m))))
      (every_map (λ c (h, i') zx zy j l l'.
      rw (both_neither a.place zx c.place zy P (at + 1) ρ n k m out (right_only c.place at P Q i'))
      (left_before (settled_clear P (at + 1) ρ n (all_later (omega arith) p)) (h zx zy j l l')))
      (every_and (e m le) (but_every a.place Q at' ρ n' m (acting_inside Q at' ρ n' m))))

-- Only the sender is in the process.
sender_first : (P : Process) (at : ℕ) (ρ : Bound) (n k : ℕ) → Every (Clear k) (settle P ρ n)
    → Every (λ a. Inside at P a × (k ≤ a.next) × ((zx : List Placed) (y : ℕ) (zy : List Placed) (m j : ℕ) → a.next ≤ j
    → inside y at P ≡ false → Left j zx (both_replaced_at a.place zx y zy P at ρ n k m))) (located_offers P at ρ n k)
sender_first P at ρ n k c =
    every_map (λ a (i, h). (i, h.0.opens.later, λ zx y zy m j l out. rw (h.1 zx y zy m out) (h.0.left zx j l)))
    (every_and (acting_inside P at ρ n k) (every_and (replaces P at ρ n k c) (both_first P at ρ n k)))

takers_lead : {P P' : Process} {at at' : ℕ} {ρ ρ' : Bound} {n n' : ℕ} → Leads P at ρ n P' at' ρ' n' → (k m : ℕ) (a : LocatedOffer)
    → {cs : List LocatedOffer} → Every (BothLeft P' at' ρ' n' k m a) cs → Every (BothLeft P at ρ n k m a) cs
unfolding said
takers_lead {P} {P'} {at} {at'} {ρ} {ρ'} {n} {n'} l k m a e =
    every_map (λ c (f : BothLeft P' at' ρ' n' k m a c) zx zy j l₁ l₂.
    rw (ap (λ (s : Said). s.put_both a.place zx c.place zy k m) l.same) (f zx zy j l₁ l₂)) e

takers_cases : Cases (λ P at ρ n. (k : ℕ) → Every (Clear k) (settle P ρ n) → Every (Takers P at ρ n k) (located_offers P at ρ n k))
unfolding said located_offers settle
takers_cases = record {
  lead = λ l h k c.
      rw (ap (λ s. s.offers k) l.same)
      (every_map (λ a e m le.
      rw (ap (λ (s : Said). s.others a.place m) l.same)
      (takers_lead l k m a (e m le)))
      (h k (rw (ap (λ s. s.threads) l.same) at c)));
  nothing = λ at ρ n k c. none;
  action = λ p P at ρ n k c. no_taker_act p P at ρ n k also none;
  beside = λ P Q at ρ n p q k c.
      let (c₁, c₂) = every_parts (settle P ρ n) c in
      every_joined
      (every_map (λ a (s, e). takers_left P Q at ρ n k c₁ c₂ a s.0 s.1 s.2 e)
      (every_and (sender_first P (at + 1) ρ n k c₁) (p k c₁)))
      (every_map (λ a (s, e). takers_right P Q at ρ n k c₁ c₂ a s.0 s.1 s.2 e)
      (every_and (sender_first Q (right_at at P) ρ (names P ρ n) k c₂) (q k c₂)));
  copied = λ P at ρ n h k c. every_map (λ a i. no_taker_copy P at ρ n k a i) (acting_inside P (at + 1) ρ k (names P ρ k));
}

-- The messages of a pair have private names below the next one of the taker, which is not before k; they and what is sent are small.
pub record PairOpens (k : ℕ) (w : Pair) : Type 0 where
  pub later : k ≤ w.taker.next
  pub sender : BoundStored w.taker.next w.sender.bound
  pub taker : BoundStored w.taker.next w.taker.bound
  pub sender_small : BoundSmall w.sender.bound
  pub taker_small : BoundSmall (w.taker.bound ▸ sent_by w)

pub pair_opens : {k : ℕ} (a c : LocatedOffer) → Opens k a → Opens a.next c → PairOpens k (record { sender = a; taker = c })
pair_opens a c p q = record {
  later = omega (arith, p.later, q.later);
  sender = bound_later q.later p.stored;
  taker = q.stored;
  sender_small = p.small;
  taker_small = every_joined q.small (sent_small a.bound a.prefix a.rest a.next p.allowed also none);
}

pub record Meets (P : Process) (at : ℕ) (ρ : Bound) (n k : ℕ) (w : Pair) : Type 0 where
  pub opens : PairOpens k w
  pub left : (zx zy : List Placed) (j : ℕ) → w.taker.next ≤ j
      → Left j (zx ++ zy) (both_replaced_at w.sender.place zx w.taker.place zy P at ρ n k w.sender.next)

pub meets : (P : Process) (at : ℕ) (ρ : Bound) (n k : ℕ) → Every (Clear k) (settle P ρ n) → Every (Meets P at ρ n k) (pairs P at ρ n k)
unfolding pairs
meets P at ρ n k clear =
    every_flat_map _ (every_map (λ a (r, e).
    every_flat_map _ (every_map (λ c (f, o). every_matching a c (record {
      opens = pair_opens a c r.opens o.opens;
      left = λ zx zy j l. f zx zy j (omega (arith, o.opens.later)) l;
    }))
    (every_and (e a.next r.opens.later)
    (but_every a.place P at ρ n a.next (replaces P at ρ n a.next (all_later r.opens.later clear))))))
    (every_and (replaces P at ρ n k clear) (by_cases takers_cases P at ρ n k clear)))
