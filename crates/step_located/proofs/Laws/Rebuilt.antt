-- The lists that a step leaves, with positions: without these they are those of the definitions, and a position outside a process changes
-- nothing in it ("Steps").
use Prim.Native.Nat.{ℕ, ◌+◌}
use mathlib.Core.Path.{◌≡◌, refl, sym, ◌∙◌, ap, ap₂}
use mathlib.Core.Bool.{false}
use mathlib.Core.List.{List, ◌++◌, map-append, map-id}
use lib.Dec.{eqb}
use borrow.Author.Tests.{eq-eqb}
use Rattle.meaning.specs.Messages.Normal.{equal}
use Rattle.meaning.specs.Bytes.Process.{Prefix, Process}
use Rattle.meaning.specs.Places.{Every, none, ◌also◌}
use Rattle.meaning.specs.Steps.State.{Bound, written, Thread, repl, names}
use Rattle.meaning.proofs.Test.{chosen as tested}
use Rattle.meaning.proofs.Every.{every_map, every_joined}
use Rattle.state_record.specs.Place.{right_at}
use Rattle.state_record.specs.Record.{Placed}
use Rattle.step_located.specs.Located.{LocatedOffer, located_offers, inside, replaced, replaced_as}
use Rattle.step_located.specs.CopyStep.{CopyStep, both_replaced, left, left_as, both_replaced_as}
use Rattle.state_head.specs.Settled.{settled_at, threads_of}
use Rattle.step_located.specs.Rebuilt.{alone, replaced_at, both_replaced_at, left_at, placed_at}
use Rattle.step_located.proofs.Laws.Everywhere.{every_and}
use Rattle.step_located.proofs.Laws.Leads.{said, Cases, by_cases}
use Rattle.step_located.proofs.Laws.Located.{left_part, right_part}
use Rattle.step_located.proofs.Laws.Located.{part_outside, Inside, acting_inside, left_only, right_only}
use Rattle.step_located.proofs.Laws.Located.{outside_as}
use Rattle.step_located.proofs.Laws.Block.{both_outside}

-- Lists with and without positions, by one test, and joined.
abbrev Bare : List Placed → List Thread → Type 0
Bare ps ts = threads_of ps ≡ ts

joined_bare : (ps qs : List Placed) {ts us : List Thread} → Bare ps ts → Bare qs us → Bare (ps ++ qs) (ts ++ us)
joined_bare ps qs e f = map-append (λ t. t.thread) ps qs ∙ ap₂ ◌++◌ e f

-- Without positions.
module _ (x : ℕ) (z : List Placed) where
  pub replaced_threads : (P : Process) (at : ℕ) (ρ : Bound) (n k : ℕ)
      → threads_of (replaced_at x z P at ρ n k) ≡ replaced x (threads_of z) P at ρ n k
  unfolding replaced_as
  replaced_threads Process.nil at ρ n k = refl
  replaced_threads (Process.new P) at ρ n k = replaced_threads P _ _ _ k
  replaced_threads (Process.act p P) at ρ n k = tested Bare (eqb at x) refl refl
  replaced_threads (Process.if M N P Q) at ρ n k =
      tested Bare (equal (written ρ M) (written ρ N)) (replaced_threads P _ ρ n k) (replaced_threads Q _ ρ n k)
  replaced_threads (Process.let_in M P) at ρ n k = replaced_threads P _ _ n k
  replaced_threads (Process.par P Q) at ρ n k =
      joined_bare (replaced_at x z P (at + 1) ρ n k) _ (replaced_threads P _ ρ n k) (replaced_threads Q _ ρ _ k)
  replaced_threads (Process.repl P) at ρ n k =
      tested Bare (eqb at x) refl (tested Bare (inside x (at + 1) P)
      (joined_bare (replaced_at x z P (at + 1) ρ k (names P ρ k)) (alone at (repl ρ P)) (replaced_threads P _ ρ k _) refl) refl)

  -- Nothing is replaced at a position outside the process.
  pub replaced_at_outside : (P : Process) (at : ℕ) (ρ : Bound) (n k : ℕ) → inside x at P ≡ false
      → replaced_at x z P at ρ n k ≡ settled_at P at ρ n
  replaced_at_outside P at ρ n k out = outside_as placed_at x z P at ρ n k out ∙ map-id (settled_at P at ρ n)

module _ (x : ℕ) (zx : List Placed) (y : ℕ) (zy : List Placed) where
  pub both_threads : (P : Process) (at : ℕ) (ρ : Bound) (n k j : ℕ)
      → threads_of (both_replaced_at x zx y zy P at ρ n k j) ≡ both_replaced x (threads_of zx) y (threads_of zy) P at ρ n k j
  unfolding both_replaced_as
  both_threads Process.nil at ρ n k j = refl
  both_threads (Process.new P) at ρ n k j = both_threads P _ _ _ k j
  both_threads (Process.act p P) at ρ n k j = tested Bare (eqb at x) refl (replaced_threads y zy (Process.act p P) at ρ n j)
  both_threads (Process.if M N P Q) at ρ n k j =
      tested Bare (equal (written ρ M) (written ρ N)) (both_threads P _ ρ n k j) (both_threads Q _ ρ n k j)
  both_threads (Process.let_in M P) at ρ n k j = both_threads P _ _ n k j
  both_threads (Process.par P Q) at ρ n k j =
      joined_bare (both_replaced_at x zx y zy P (at + 1) ρ n k j) _ (both_threads P _ ρ n k j) (both_threads Q _ ρ _ k j)
  both_threads (Process.repl P) at ρ n k j =
      tested Bare (inside x (at + 1) P) (replaced_threads x zx (Process.repl P) at ρ n k)
      (replaced_threads y zy (Process.repl P) at ρ n j)

pub left_threads : (w : CopyStep) (zx zy : List Placed) → threads_of (left_at w zx zy) ≡ left w (threads_of zx) (threads_of zy)
unfolding left_as
left_threads w zx zy =
    let x = w.pair.sender.place in
    let y = w.pair.taker.place in
    let own = replaced_at x zx w.copied (w.place + 1) w.bound w.opens (names w.copied w.bound w.opens) in
    tested Bare w.two (joined_bare own _ (replaced_threads x zx w.copied _ _ _ _) (replaced_threads y zy w.copied _ _ _ _))
    (both_threads x zx y zy w.copied _ _ _ _ _)

-- Both positions outside the process.
pub both_neither : (x : ℕ) (zx : List Placed) (y : ℕ) (zy : List Placed) (P : Process) (at : ℕ) (ρ : Bound) (n k j : ℕ)
    → inside x at P ≡ false → inside y at P ≡ false → both_replaced_at x zx y zy P at ρ n k j ≡ settled_at P at ρ n
both_neither x zx y zy P at ρ n k j out out' = both_outside placed_at x zx y zy P at ρ n k j out ∙ replaced_at_outside y zy P at ρ n j out'

-- The second position outside, and the first one that of an offer: only this matters.
abbrev FirstOnly : Process → (at : ℕ) → Bound → (n k : ℕ) → LocatedOffer → Type 0
FirstOnly P at ρ n k a =
    (zx : List Placed) (y : ℕ) (zy : List Placed) (j : ℕ) → inside y at P ≡ false
    → both_replaced_at a.place zx y zy P at ρ n k j ≡ replaced_at a.place zx P at ρ n k

first_act : (p : Prefix) (P : Process) (at : ℕ) (ρ : Bound) (n k : ℕ)
    → FirstOnly (Process.act p P) at ρ n k (record { place = at; bound = ρ; prefix = p; rest = P; next = k })
unfolding both_replaced_as replaced_as
first_act p P at ρ n k zx y zy j out = rw (eq-eqb at at refl, both_replaced_as, replaced_as)

first_still : (P : Process) (at : ℕ) (ρ : Bound) (n k : ℕ) (a : LocatedOffer) → inside a.place at P ≡ false → FirstOnly P at ρ n k a
first_still P at ρ n k a out zx y zy j out' =
    both_neither a.place zx y zy P at ρ n k j out out' ∙ sym (replaced_at_outside a.place zx P at ρ n k out)

first_par : (P Q : Process) (at : ℕ) (ρ : Bound) (n k : ℕ) (a : LocatedOffer) → FirstOnly P (at + 1) ρ n k a
    → FirstOnly Q (right_at at P) ρ (names P ρ n) k a → FirstOnly (Process.par P Q) at ρ n k a
unfolding both_replaced_as replaced_as
first_par P Q at ρ n k a e f zx y zy j out =
    ap₂ ◌++◌ (e zx y zy j (part_outside y (left_part at P Q) out)) (f zx y zy j (part_outside y (right_part at P Q) out))

first_cases : Cases (λ P at ρ n. (k : ℕ) → Every (FirstOnly P at ρ n k) (located_offers P at ρ n k))
unfolding said located_offers both_replaced_as
first_cases = record {
  lead = λ l h k.
      rw (ap (λ s. s.offers k) l.same)
      (every_map (λ a e zx y zy j out.
      ap (λ s. s.put_both a.place zx y zy k j) l.same ∙ e zx y zy j (part_outside y l.part out)
      ∙ sym (ap (λ s. s.put a.place zx k) l.same)) (h k));
  nothing = λ at ρ n k. none;
  action = λ p P at ρ n k. first_act p P at ρ n k also none;
  beside = λ P Q at ρ n p q k.
      every_joined
      (every_map (λ a (e, i). first_par P Q at ρ n k a e (first_still Q _ ρ _ k a (left_only a.place at P Q i)))
      (every_and (p k) (acting_inside P _ ρ n k)))
      (every_map (λ a (e, i). first_par P Q at ρ n k a (first_still P _ ρ n k a (right_only a.place at P Q i)) e)
      (every_and (q k) (acting_inside Q _ ρ _ k)));
  copied = λ P at ρ n h k.
      every_map (λ a (e : Inside (at + 1) P a) zx y zy j out. rw (e, both_replaced_as)) (acting_inside P (at + 1) ρ k (names P ρ k));
}

pub both_first : (P : Process) (at : ℕ) (ρ : Bound) (n k : ℕ) → Every (FirstOnly P at ρ n k) (located_offers P at ρ n k)
both_first = by_cases first_cases
