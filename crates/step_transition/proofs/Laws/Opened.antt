-- The repl threads of a thread that meets no limit, and the private names at which copies open ("Steps").
use Prim.Native.Nat.{ℕ, suc, ◌+◌, ◌≤◌}
use native.Mathlib.Omega.{arith}
use native.Mathlib.Nat.{le_refl}
use mathlib.Core.Path.{◌≡◌, refl, sym, ◌∙◌}
use mathlib.Core.Bool.{Bool, true, false}
use Rattle.meaning.specs.Messages.Term.{leaf, private}
use Rattle.meaning.specs.Messages.Normal.{equal}
use Rattle.meaning.specs.Bytes.Process.{Process}
use Rattle.meaning.specs.Places.{Every, none, ◌also◌}
use Rattle.meaning.specs.Steps.State.{Bound, ◌▸◌, written, worked, Thread, act, repl, names, settle}
use Rattle.meaning.specs.Steps.Invariant.{BoundStored}
use Rattle.meaning.specs.Judging.Limits.{over_settling, over_offers}
use Rattle.meaning.specs.Logic.Truth.{any_of}
use Rattle.meaning.proofs.Every.{every_map, every_joined, every_parts}
use Rattle.meaning.proofs.Test.{neither}
use Rattle.state_record.specs.Place.{then_at, else_at}
use Rattle.state_record.specs.Record.{Placed, process_of, bound_of}
use Rattle.state_head.specs.News.{news, later_news}
use Rattle.state_head.proofs.Laws.TraversalResult.{names-fit}
use Rattle.state_head.proofs.Laws.Counting.{over_repl}
use Rattle.step_located.specs.Located.{LocatedOffer, located_offers}
use Rattle.step_located.specs.Sought.{Opened, copies}
use Rattle.step_located.proofs.Laws.Traversal.{Free}
use Rattle.step_transition.specs.Focus.{copies_of}
use Rattle.step_transition.specs.Threads.{Judged}
use Rattle.step_transition.proofs.Laws.LimitsLeft.{Clear, clear_copy}

-- A repl thread whose copies open at k or later, at most `most` names on: it meets no limit in its copy.
pub record Opening (k most : ℕ) (w : Opened) : Type 0 where
  pub later : k ≤ w.opens
  pub stored : BoundStored w.opens w.bound
  pub free : Free w.copied w.bound w.opens (names w.copied w.bound w.opens)
  pub small : names w.copied w.bound w.opens + later_news w.copied ≤ k + most

opening_within : {k j most more : ℕ} → k ≤ j → j + more ≤ k + most → (w : Opened) → Opening j more w → Opening k most w
opening_within l h w o = record { later = omega (arith, o.later); stored = o.stored; free = o.free; small = omega (arith, o.small) }

pub opened_all : (P : Process) (at : ℕ) (ρ : Bound) (n k : ℕ) → Every (Clear k) (settle P ρ n)
    → Every (Opening k (later_news P)) (copies P at ρ n k)
unfolding copies settle
opened_all Process.nil at ρ n k c = none
opened_all (Process.new P) at ρ n k c = opened_all P _ _ _ k c
opened_all (Process.act p P) at ρ n k c = none
opened_all (Process.if M N P Q) at ρ n k c = of (equal (written ρ M) (written ρ N)) c (opened_all P _ ρ n k) (opened_all Q _ ρ n k)
  where
    of : (b : Bool) → Every (Clear k) (elim b [ true ↦ settle P ρ n | false ↦ settle Q ρ n ])
        → (Every (Clear k) (settle P ρ n) → Every (Opening k (later_news P)) (copies P (then_at at M N) ρ n k))
        → (Every (Clear k) (settle Q ρ n) → Every (Opening k (later_news Q)) (copies Q (else_at at M N P) ρ n k))
        → Every (Opening k (later_news P + later_news Q))
        (elim b [ true ↦ copies P (then_at at M N) ρ n k | false ↦ copies Q (else_at at M N P) ρ n k ])
    of true c f g = every_map (opening_within (le_refl k) (omega arith)) (f c)
    of false c f g = every_map (opening_within (le_refl k) (omega arith)) (g c)
opened_all (Process.let_in M P) at ρ n k c = opened_all P _ _ n k c
opened_all (Process.par P Q) at ρ n k c =
    let (c₁, c₂) = every_parts (settle P ρ n) c in
    every_joined (every_map (opening_within (le_refl k) (omega arith)) (opened_all P _ ρ n k c₁))
    (every_map (opening_within (le_refl k) (omega arith)) (opened_all Q _ ρ _ k c₂))
opened_all (Process.repl P) at ρ n k (c also cs) =
    let (later, copy) = clear_copy P c in
    let (settling, offering) = neither (over_settling P ρ k) _ (sym (over_repl ρ P k) ∙ c.free) in
    let fit = names-fit P ρ k in
    every_joined (every_map (opening_within later fit) (opened_all P (at + 1) ρ k (names P ρ k) copy))
    (record { later = le_refl k; stored = c.stored; free = record { settling = settling; offering = offering }; small = fit } also none)

-- Settling takes names, and gives none back.
pub names_later : (P : Process) (ρ : Bound) (n : ℕ) → n ≤ names P ρ n
unfolding names
names_later Process.nil ρ n = le_refl n
names_later (Process.new P) ρ n = omega (arith, names_later P (ρ ▸ leaf (private n)) (suc n))
names_later (Process.act p P) ρ n = le_refl n
names_later (Process.if M N P Q) ρ n = of (equal (written ρ M) (written ρ N)) (names_later P ρ n) (names_later Q ρ n)
  where
    of : (b : Bool) → n ≤ names P ρ n → n ≤ names Q ρ n → n ≤ elim b [ true ↦ names P ρ n | false ↦ names Q ρ n ]
    of true f g = f
    of false f g = g
names_later (Process.let_in M P) ρ n = names_later P (ρ ▸ worked ρ M) n
names_later (Process.par P Q) ρ n = omega (arith, names_later P ρ n, names_later Q ρ (names P ρ n))
names_later (Process.repl P) ρ n = le_refl n

-- The next private name of an offer, with those of what follows it.
pub record Acts (k most : ℕ) (a : LocatedOffer) : Type 0 where
  pub later : k ≤ a.next
  pub small : a.next + news a.rest ≤ k + most

acts_within : {k j most more : ℕ} → k ≤ j → j + more ≤ k + most → (a : LocatedOffer) → Acts j more a → Acts k most a
acts_within l h a o = record { later = omega (arith, o.later); small = omega (arith, o.small) }

pub acting_all : (P : Process) (at : ℕ) (ρ : Bound) (n k : ℕ) → Every (Acts k (later_news P)) (located_offers P at ρ n k)
unfolding located_offers
acting_all Process.nil at ρ n k = none
acting_all (Process.new P) at ρ n k = acting_all P _ _ _ k
acting_all (Process.act p P) at ρ n k = record { later = le_refl k; small = le_refl _ } also none
acting_all (Process.if M N P Q) at ρ n k = of (equal (written ρ M) (written ρ N)) (acting_all P _ ρ n k) (acting_all Q _ ρ n k)
  where
    of : (b : Bool) → Every (Acts k (later_news P)) (located_offers P (then_at at M N) ρ n k)
        → Every (Acts k (later_news Q)) (located_offers Q (else_at at M N P) ρ n k)
        → Every (Acts k (later_news P + later_news Q))
        (elim b [ true ↦ located_offers P (then_at at M N) ρ n k | false ↦ located_offers Q (else_at at M N P) ρ n k ])
    of true f g = every_map (acts_within (le_refl k) (omega arith)) f
    of false f g = every_map (acts_within (le_refl k) (omega arith)) g
acting_all (Process.let_in M P) at ρ n k = acting_all P _ _ n k
acting_all (Process.par P Q) at ρ n k =
    every_joined (every_map (acts_within (le_refl k) (omega arith)) (acting_all P _ ρ n k))
    (every_map (acts_within (le_refl k) (omega arith)) (acting_all Q _ ρ _ k))
acting_all (Process.repl P) at ρ n k =
    every_map (acts_within (names_later P ρ k) (names-fit P ρ k)) (acting_all P (at + 1) ρ k (names P ρ k))

-- A thread of a state that was judged: whatever it settles to, offers and copies.
pub judged_clear : {k : ℕ} (t : Placed) (n : ℕ) → Judged k t → Every (Clear k) (settle (process_of t.thread) (bound_of t.thread) n)
unfolding settle
judged_clear t n j = of t.thread (record { stored = j.stored; free = j.free; small = j.small })
  where
    of : {k : ℕ} (u : Thread) → Clear k u → Every (Clear k) (settle (process_of u) (bound_of u) n)
    of (act ρ p P) c = c also none
    of (repl ρ P) c = c also none

pub judged_free : {k : ℕ} (t : Placed) (n : ℕ) → Judged k t → Free (process_of t.thread) (bound_of t.thread) n k
unfolding settle over_settling any_of
judged_free {k} t n j = of t.thread j.free
  where
    of : (u : Thread) → over_offers u k ≡ false → Free (process_of u) (bound_of u) n k
    of (act ρ p P) f = record { settling = refl; offering = rw f }
    of (repl ρ P) f = record { settling = refl; offering = rw f }

-- The private name at which such a thread is settled does not matter.
pub copies_settled : (t : Placed) (n k : ℕ) → copies (process_of t.thread) t.place (bound_of t.thread) n k ≡ copies_of t k
unfolding copies
copies_settled t n k = of t.thread
  where
    of : (u : Thread) → copies (process_of u) t.place (bound_of u) n k ≡ copies (process_of u) t.place (bound_of u) 0 k
    of (act ρ p P) = refl
    of (repl ρ P) = refl
