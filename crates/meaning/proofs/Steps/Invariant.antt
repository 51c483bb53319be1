-- A state that is reached holds normal forms, with private names below its next one: the start state does, and every step keeps
-- this so ("Steps").
use Prim.Native.Nat.{ℕ, ◌≤◌}
use native.Mathlib.Omega.{arith}
use native.Mathlib.Nat.{le_refl}
use mathlib.Core.List.{List, ◌++◌}
use Rattle.meaning.specs.Bytes.Process.{Process}
use Rattle.meaning.specs.Bytes.Formula.{Label}
use Rattle.meaning.specs.Places.{Every, none, ◌also◌}
use Rattle.meaning.specs.Steps.State.{Bound, Thread, names, settle, State, start}
use Rattle.meaning.specs.Steps.Offer.{Offer, offer, opened, placed, ThreadOffer, own, copy, ListOffer}
use Rattle.meaning.specs.Steps.Silent.{Meeting, meeting, framed as framed_meeting, Joins, join, within, copies, ListSilent, with_left, with_right}
use Rattle.meaning.specs.Steps.Step.{Step}
use Rattle.meaning.specs.Steps.Invariant.{BoundStored, ThreadStored, Invariant}
use Rattle.meaning.specs.Theorems.{InvariantHolds}
use Rattle.meaning.proofs.Every.{every_joined, every_split}
use Rattle.meaning.proofs.Steps.Invariant.Settling.{bound_later, threads_later, worked_below, settled_below}
pub mod Settling

-- From the next name n on to the next name m: what is bound, and where x is put among threads. Whatever later number the names in
-- x are below, those in the whole are below it too.
record Kept {X : Type 0} (Below : ℕ → X → Type 0) (n m : ℕ) (Bounds : Type 0) (place : X → List Thread) : Type 0 where
  later : n ≤ m
  bounds : Bounds
  keeps : (k : ℕ) → m ≤ k → (x : X) → Below k x → Every (ThreadStored k) (place x)

-- What is put there: one list of threads, or two.
abbrev One : ℕ → List Thread → Type 0
One k x = Every (ThreadStored k) x

abbrev Two : ℕ → List Thread × List Thread → Type 0
Two k x = One k x.0 × One k x.1

abbrev OfferBelow : ℕ → Offer → Type 0
OfferBelow n (offer ρ p P f m) = Kept One n m (BoundStored m ρ) f

abbrev MeetingBelow : ℕ → Meeting → Type 0
MeetingBelow n (meeting ρ M P σ Q f m) = Kept Two n m (BoundStored m ρ × BoundStored m σ) (λ x. f x.0 x.1)

module _ {X : Type 0} {Below : ℕ → X → Type 0} {n m : ℕ} {Bounds : Type 0} {f : X → List Thread} where
  -- Threads that were there stand before and after.
  framed : {l r : List Thread} → One n l → One n r → Kept Below n m Bounds f → Kept Below n m Bounds (λ x. l ++ f x ++ r)
  framed before after w = record {
    later = w.later;
    bounds = w.bounds;
    keeps = λ k le x h.
        let all : n ≤ k = omega arith in
        every_joined (every_joined (threads_later all before) (w.keeps k le x h)) (threads_later all after);
  }

  -- What a settled copy keeps from its next name on is kept from the name on at which it was opened.
  copied : (P : Process) {ρ : Bound} → (One (names P ρ n) (settle P ρ n) → Kept Below (names P ρ n) m Bounds f)
      → BoundStored n ρ → Kept Below n m Bounds f
  copied P kept b =
      let s = settled_below P b in
      let w = kept s.1 in
      record { later = omega arith; bounds = w.bounds; keeps = w.keeps }

-- The same of offers and of meetings.
offer_later : {n : ℕ} (o : Offer) → OfferBelow n o → n ≤ opened o
offer_later (offer ρ p P f m) w = w.later

offer_framed : {n : ℕ} (o : Offer) {l r : List Thread} → One n l → One n r → OfferBelow n o
    → OfferBelow n (placed (λ x. l ++ x ++ r) o)
offer_framed (offer ρ p P f m) before after w = framed before after w

offer_opened : {n : ℕ} (o : Offer) (P : Process) {ρ : Bound} → (One (names P ρ n) (settle P ρ n) → OfferBelow (names P ρ n) o)
    → BoundStored n ρ → OfferBelow n o
offer_opened (offer σ p Q f m) P kept b = copied P kept b

meeting_framed : {n : ℕ} (w : Meeting) {l r : List Thread} → One n l → One n r → MeetingBelow n w
    → MeetingBelow n (framed_meeting (λ x. l ++ x ++ r) w)
meeting_framed (meeting ρ M P σ Q f k) before after w = framed before after w

meeting_opened : {n : ℕ} (w : Meeting) (P : Process) {ρ : Bound}
    → (One (names P ρ n) (settle P ρ n) → MeetingBelow (names P ρ n) w) → BoundStored n ρ → MeetingBelow n w
meeting_opened (meeting σ M Q τ R f k) P kept b = copied P kept b

thread_offer : {n : ℕ} {t : Thread} {o : Offer} → ThreadOffer n t o → ThreadStored n t → OfferBelow n o
thread_offer d =
    elim d as (λ n t o d. ThreadStored n t → OfferBelow n o) (λ n ts o d. One n ts → OfferBelow n o) [
      | own {n = n} ↦ λ b. record { later = le_refl n; bounds = b; keeps = λ k le x h. h }
      | copy {P = P} {o = o} (d → h) ↦ λ b. offer_framed o none (b also none) (offer_opened o P h b)
      | ListOffer.among {o = o} s (d → h) ↦ λ b. let c = every_split s b in offer_framed o c.0 c.2 (h c.1)
    ]

list_offer : {n : ℕ} {ts : List Thread} {o : Offer} → ListOffer n ts o → One n ts → OfferBelow n o
list_offer (ListOffer.among {o = o} s d) b = let c = every_split s b in offer_framed o c.0 c.2 (thread_offer d c.1)

-- An offer of a copy, from the name on at which it was opened.
copy_offer : (P : Process) {n : ℕ} {ρ : Bound} {o : Offer} → ListOffer (names P ρ n) (settle P ρ n) o → BoundStored n ρ
    → OfferBelow n o
copy_offer P {o = o} d b = offer_opened o P (list_offer d) b

-- The rests of a silent step go where their offers put them, and these where `arrange` does.
joined_below : {n : ℕ} {o i : Offer} {w : Meeting} {arrange : List Thread → List Thread → List Thread} → Joins arrange o i w
    → OfferBelow n o → OfferBelow (opened o) i
    → ((k : ℕ) → n ≤ k → (x y : List Thread) → One k x → One k y → One k (arrange x y)) → MeetingBelow n w
joined_below (join e) o i keeps = record {
  later = omega arith;
  bounds = (bound_later i.later o.bounds, i.bounds);
  keeps = λ k le x h. keeps k (omega arith) _ _ (o.keeps k (omega arith) x.0 h.0) (i.keeps k le x.1 h.1);
}

list_silent : {n : ℕ} {ts : List Thread} {w : Meeting} → ListSilent n ts w → One n ts → MeetingBelow n w
list_silent d =
    elim d as (λ n t w d. ThreadStored n t → MeetingBelow n w) (λ n ts w d. One n ts → MeetingBelow n w) [
      | within {P = P} {w = w} (d → h) ↦ λ b. meeting_framed w none (b also none) (meeting_opened w P h b)
      | copies {P = P} {o = o} d e j ↦ λ b.
          let w = copy_offer P d b in
          joined_below j w (copy_offer P e (bound_later (offer_later o w) b))
          (λ k le x y h g. every_joined (every_joined h g) (bound_later le b also none))
      | ListSilent.among {w = w} s (d → h) ↦ λ b. let c = every_split s b in meeting_framed w c.0 c.2 (h c.1)
      | with_left {o = o} s d e j ↦ λ b.
          let c = every_split s b in
          let w = thread_offer d c.1 in
          joined_below j w (list_offer e (threads_later (offer_later o w) c.0))
          (λ k le x y h g. every_joined (every_joined g h) (threads_later le c.2))
      | with_right {o = o} s d e j ↦ λ b.
          let c = every_split s b in
          let w = thread_offer d c.1 in
          joined_below j w (list_offer e (threads_later (offer_later o w) c.2))
          (λ k le x y h g. every_joined (every_joined (threads_later le c.0) h) g)
    ]

step_made : {S T : State} {a : Label} → Step S a T → Invariant S → Invariant T
step_made (Step.output {M = M} {P = P} d e) made =
    let o = list_offer d made.in_threads in
    let s = settled_below P o.bounds in
    record {
      in_threads = o.keeps _ s.0 _ s.1;
      in_aliases = bound_later s.0 (worked_below o.bounds M (bound_later o.later made.in_aliases));
    }
step_made (Step.input {P = P} {N = N} d e) made =
    let o = list_offer d made.in_threads in
    let aliases = bound_later o.later made.in_aliases in
    let s = settled_below P (worked_below aliases N o.bounds) in
    record { in_threads = o.keeps _ s.0 _ s.1; in_aliases = bound_later s.0 aliases }
step_made (Step.silent {w = meeting ρ M P σ Q f k} d) made =
    let w = list_silent d made.in_threads in
    let s = settled_below P w.bounds.0 in
    let r = settled_below Q (bound_later s.0 (worked_below w.bounds.0 M w.bounds.1)) in
    record {
      in_threads = w.keeps _ (omega arith) _ (threads_later r.0 s.1, r.1);
      in_aliases = bound_later (omega arith) made.in_aliases;
    }

pub invariant_holds : InvariantHolds
unfolding start
invariant_holds = (
  λ P. record { in_threads = (settled_below P none).1; in_aliases = none },
  λ S T a d made. step_made d made,
)
