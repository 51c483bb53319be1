-- What a traversal finds that seeks an offer of a process that meets no limit ("Steps").
use Prim.Native.Nat.{ℕ, ◌+◌, ◌-◌}
use native.Mathlib.Omega.{arith}
use mathlib.Core.Path.{◌≡◌, refl, sym}
use mathlib.Core.Bool.{Bool, true, false, not, ◌&&◌, ◌||◌}
use mathlib.Core.List.{[], ◌∷◌}
use lib.Dec.{ltb, eqb}
use borrow.Author.Tests.{eqb-true, eqb-false, eq-eqb, ne_eqb}
use Rattle.meaning.specs.Messages.Term.{Message}
use Rattle.meaning.specs.Messages.Normal.{same}
use Rattle.meaning.specs.Bytes.Process.{Prefix, output, input, Process}
use Rattle.meaning.specs.Steps.State.{Bound, worked, names, settle}
use Rattle.meaning.specs.Logic.Truth.{any_of}
use Rattle.meaning.specs.Judging.Limits.{over, over_settling, over_prefix, over_offers}
use Rattle.meaning.proofs.Test.{neither}
use Rattle.step_located.specs.Located.{LocatedOffer, inside}
use Rattle.step_located.specs.CopyStep.{located_offers_except}
use Rattle.state_progress.specs.TraversalResult.{Accumulated, TraversalResult, going, found, unless, named}
use Rattle.state_task.specs.Machine.{contains, opening, sought, at_repl}
use Rattle.state_head.specs.Traversal.{at_prefix, go}
use Rattle.step_located.specs.Sought.{wanted, sent_by, first, offers_except}
use Rattle.state_task.specs.declared.task.Task.TheVariants.{Seek}
use Rattle.state_task.specs.declared.task.Quest.{Quest}
use Rattle.step_located.proofs.Laws.Located.{size, outside, Part, outside_first, part_outside}
use Rattle.step_located.proofs.Laws.Located.{new_part, then_part, else_part, let_part, left_part, right_part, repl_part}
use Rattle.step_located.proofs.Laws.Block.{others_outside}
use Rattle.step_located.proofs.Laws.Clear.{Clear, done, made, acts, then, else, body, both, copy, clear}
use Rattle.step_located.proofs.Laws.Traverses.{Traverses, traverses_new, traverses_then, traverses_else, traverses_body, traverses_both, traverses_copy, first_picks}
use Rattle.step_located.proofs.Laws.Marks.{holds_inside, holds_none}

-- A test on positions is one on their marks.
eqb_marks : (a b : ℕ) → eqb (a + 1) (b + 1) ≡ eqb a b
eqb_marks a b = by_test (eqb a b) refl
  where
    by_test : (t : Bool) → eqb a b ≡ t → eqb (a + 1) (b + 1) ≡ t
    by_test true e = eq-eqb (a + 1) (b + 1) (omega (arith, eqb-true a b e))
    by_test false e = ne_eqb (a + 1) (b + 1) (λ s. eqb-false a b e (omega arith))

-- What the tests say of the mark of a position.
module _ (x : ℕ) {mark : ℕ} (e : mark ≡ x + 1) where
  pub first_mark : (at : ℕ) → eqb (at + 1) mark ≡ eqb at x
  first_mark at = rw e (eqb_marks at x)

  pub held_mark : (at : ℕ) (P : Process) → contains mark at P ≡ inside x at P
  held_mark at P = rw e (holds_inside x at P)

-- A mark stands for the position z; or it is none, and z is not in the process.
data Marks (excluded z at : ℕ) (P : Process) : Type 0 where
  marked : excluded ≡ z + 1 → Marks excluded z at P
  unmarked : excluded ≡ 0 → inside z at P ≡ false → Marks excluded z at P

-- So it does in a part of the process; and what the tests say of it.
module _ {excluded z at : ℕ} {P : Process} where
  marks_part : {at' : ℕ} {P' : Process} → Part at P at' P' → Marks excluded z at P → Marks excluded z at' P'
  marks_part part (marked e) = marked e
  marks_part part (unmarked e out) = unmarked e (part_outside z part out)

  marks_holds : Marks excluded z at P → contains excluded at P ≡ inside z at P
  marks_holds (marked e) = held_mark z e at P
  marks_holds (unmarked e out) = rw (e, out) (holds_none at P)

  marks_first : Marks excluded z at P → eqb (at + 1) excluded ≡ eqb at z
  marks_first (marked e) = first_mark z e at
  marks_first (unmarked e out) = rw (e, outside_first z at P out) (ne_eqb (at + 1) 0 (λ s. omega arith))

-- An offer is looked at, unless e says that it is left out; two tests for limits are passed.
picked : (q : Quest) (x : Message) (a : LocatedOffer) {o u : Bool} (b e c : Bool) (d : TraversalResult) → o ≡ false → u ≡ false → wanted q x a ≡ (b && c)
    → elim (b && not e) [
      | true ↦ unless o (elim c [ true ↦ unless u (found a.place a.next (sent_by a)) | false ↦ d ])
      | false ↦ d
    ] ≡ first q x (elim e [ true ↦ [] | false ↦ a ∷ [] ]) d
unfolding first
picked q x a true true c d o u w = refl
picked q x a true false true d o u w = rw (o, u, w, first)
picked q x a true false false d o u w = rw (o, w, first)
picked q x a false true c d o u w = refl
picked q x a false false c d o u w = rw (w, first)

module _ (q : Quest) (x : Message) (z : ℕ) where
  -- A thread that acts by itself.
  prefix_sought : (at : ℕ) (ρ : Bound) (p : Prefix) (P : Process) (n k : ℕ) (g : Accumulated) → over_prefix ρ p P k ≡ false
      → eqb (at + 1) q.excluded ≡ eqb at z → sought q k x at ρ p g ≡ first q x (located_offers_except z (Process.act p P) at ρ n k) (going g)
  unfolding sought located_offers_except wanted sent_by
  prefix_sought at ρ (output C M) P n k g o e =
      let (c, m) = neither (over ρ C) (over ρ M) o in
      let a : LocatedOffer = record { place = at; bound = ρ; prefix = output C M; rest = P; next = k } in
      let chosen = q.output && not (ltb at q.from) in
      rw (e, sought) (picked q x a chosen (eqb at z) (q.any || same (worked ρ C) x) (going g) c m refl)
  prefix_sought at ρ (input C) P n k g o e =
      let a : LocatedOffer = record { place = at; bound = ρ; prefix = input C; rest = P; next = k } in
      let chosen = not q.output && not (ltb at q.from) in
      rw (e, sought) (picked q x a {u = false} chosen (eqb at z) (q.any || same (worked ρ C) x) (going g) o refl refl)

  -- A repl thread that has z in it is left out; in any other no thread has it.
  repl_sought : (at : ℕ) (ρ : Bound) (P : Process) (n k : ℕ) → over_settling P ρ k ≡ false → Marks q.excluded z (at + 1) P
      → Traverses (Seek q (names P ρ k)) x P (at + 1) ρ k (first q x (located_offers_except z P (at + 1) ρ k (names P ρ k)))
      → Traverses (Seek q k) x (Process.repl P) at ρ n (first q x (located_offers_except z (Process.repl P) at ρ n k))
  unfolding go names at_repl opening located_offers_except
  repl_sought at ρ P n k o m traverse = by_test (inside z (at + 1) P) refl
    where
      by_test : (b : Bool) → inside z (at + 1) P ≡ b
          → Traverses (Seek q k) x (Process.repl P) at ρ n (first q x (located_offers_except z (Process.repl P) at ρ n k))
      by_test true e =
          record { comes = λ g. rw (marks_holds m, e, at_repl, located_offers_except) (sym ((first_picks q x).nothing (going (named n g)))) }
      by_test false e =
          let found = rw (others_outside z P (at + 1) ρ k (names P ρ k) e) at traverse in
          record {
            comes = λ g. rw (marks_holds m, e, at_repl, located_offers_except)
                (traverses_copy (at + 1) (Seek q k) o refl ((first_picks q x).steady _) found (named n g));
          }

  -- The traversal finds the first offer of a thread that does not have z in it.
  seeks : {P : Process} {ρ : Bound} {n k : ℕ} → Clear P ρ n k → (at : ℕ) → Marks q.excluded z at P
      → Traverses (Seek q k) x P at ρ n (first q x (located_offers_except z P at ρ n k))
  unfolding go names located_offers_except at_prefix
  seeks (done {n = n}) at m = record { comes = λ g. sym ((first_picks q x).nothing (going (named n g))) }
  seeks (made {P} c) at m = traverses_new at (seeks c (at + 1) (marks_part (new_part at P) m))
  seeks (acts {p} {P} {ρ} {n} {k} o) at m = record { comes = λ g. prefix_sought at ρ p P n k (named n g) o (marks_first m) }
  seeks (then {M} {N} {P} {Q} o e c) at m =
      rw (e, located_offers_except) (traverses_then at M N Q o e (seeks c _ (marks_part (then_part at M N P Q) m)))
  seeks (else {M} {N} {P} {Q} o e c) at m =
      rw (e, located_offers_except) (traverses_else at M N P o e (seeks c _ (marks_part (else_part at M N P Q) m)))
  seeks (body {M} {P} o c) at m = traverses_body at M o (seeks c _ (marks_part (let_part at M P) m))
  seeks (both {P} {Q} c d) at m =
      let picks = first_picks q x in
      traverses_both at (picks.steady _) (picks.joined _ _) (seeks c _ (marks_part (left_part at P Q) m))
      (seeks d _ (marks_part (right_part at P Q) m))
  seeks (copy {P} {ρ} {n} {k} o c) at m =
      let part = marks_part (repl_part at P) m in
      repl_sought at ρ P n k o part (seeks c (at + 1) part)

-- So it finds the first of the offers that are looked for, whatever the mark.
pub seeks_first : (q : Quest) (x : Message) {P : Process} {ρ : Bound} {n k : ℕ} → Clear P ρ n k → (at : ℕ)
    → Traverses (Seek q k) x P at ρ n (first q x (offers_except q.excluded P at ρ n k))
unfolding offers_except
seeks_first q x {P} {ρ} {n} {k} c at = by_test (eqb q.excluded 0) refl
  where
    by_test : (b : Bool) → eqb q.excluded 0 ≡ b → Traverses (Seek q k) x P at ρ n (first q x (offers_except q.excluded P at ρ n k))
    by_test true e =
        let z = at + size P in
        let out = outside z at P (λ low high. omega arith) in
        rw (e, offers_except, ← others_outside z P at ρ n k out) (seeks q x z c at (unmarked (eqb-true q.excluded 0 e) out))
    by_test false e =
        let some = eqb-false q.excluded 0 e in
        rw (e, offers_except) (seeks q x (q.excluded - 1) c at (marked (omega arith)))

-- The same, by the tests for limits.
pub sought_first : (q : Quest) (k : ℕ) (x : Message) (P : Process) (at : ℕ) (ρ : Bound) (g : Accumulated) → over_settling P ρ g.names ≡ false
    → any_of (λ t. over_offers t k) (settle P ρ g.names) ≡ false
    → go P (Seek q k) x at ρ g
    ≡ first q x (offers_except q.excluded P at ρ g.names k) (going (named (names P ρ g.names) g))
sought_first q k x P at ρ g s o = (seeks_first q x (clear P ρ g.names k s o) at).comes g
