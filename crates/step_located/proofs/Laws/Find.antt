-- What a traversal finds that looks for the next repl thread of a process that meets no limit ("Steps").
use Prim.Native.Nat.{ℕ, ◌+◌, ◌≤◌}
use native.Mathlib.Omega.{arith}
use mathlib.Core.Path.{◌≡◌, refl, sym, ◌∙◌}
use mathlib.Core.Bool.{Bool, true, false}
use mathlib.Core.List.{List, [], ◌∷◌, ◌++◌}
use borrow.Author.Tests.{lt-ltb, le-ltb, eq-eqb, ne_eqb}
use Rattle.meaning.specs.Messages.Term.{Message}
use Rattle.meaning.specs.Bytes.Process.{Process}
use Rattle.meaning.specs.Steps.State.{Bound, names, settle}
use Rattle.meaning.specs.Logic.Truth.{any_of}
use Rattle.meaning.specs.Judging.Limits.{over_settling, over_offers}
use Rattle.state_progress.specs.TraversalResult.{Accumulated, TraversalResult, going, found, further, named}
use Rattle.state_task.specs.Machine.{opening, opened, at_repl}
use Rattle.state_head.specs.Traversal.{at_prefix, go}
use Rattle.step_located.specs.Sought.{Opened, copies, first_copy}
use Rattle.state_task.specs.declared.task.Task.TheVariants.{Find}
use Rattle.step_located.proofs.Laws.Located.{size, inside_bounds, outside, some_bytes, part_first, repl_part}
use Rattle.step_located.proofs.Laws.Clear.{clear}
use Rattle.step_located.proofs.Laws.Traverses.{Traverses, Steady, steady_both, traverses_copy, first_copy_picks, skip_picks}
use Rattle.step_located.proofs.Laws.Copies.{split_at}
use Rattle.step_located.proofs.Laws.Meant.{Sweeps, traverses_all, Meets, traverses_meant}
use Rattle.step_located.proofs.Laws.SeekFirst.{first_mark, held_mark}

module _ (x : Message) (past : Bool) where
  -- A repl thread comes after those of its copy.
  copy_first : (f : ℕ) {meet : TraversalResult → TraversalResult} → Steady meet → (at : ℕ) (ρ : Bound) (P : Process) (k : ℕ) → over_settling P ρ k ≡ false
      → (ws : List Opened) → Traverses (Find f past (names P ρ k)) x P (at + 1) ρ k (λ c. meet (first_copy ws c)) → (g : Accumulated)
      → let v : Opened = record { place = at; bound = ρ; copied = P; opens = k } in
      further (opened (λ U. go P U x (at + 1) ρ) (Find f past k) k g) (λ h. found at k []) ≡ meet (first_copy (ws ++ (v ∷ [])) (going g))
  unfolding opening first_copy
  copy_first f {meet} steady at ρ P k o ws traverse g =
      let all = steady_both steady (first_copy_picks.steady ws) in
      rw (traverses_copy (at + 1) (Find f past k) o refl all traverse g, first_copy_picks.joined) (all.passes _ _)

  -- In a process that stands after the mark the first of all repl threads is found.
  later : (f : ℕ) → Sweeps x (Find f past) first_copy_picks (λ at P. f ≤ at)
  unfolding go names at_prefix at_repl copies
  later f = record {
    part = λ part le. omega arith;
    own = λ at ρ p P n k. record { comes = λ g. sym (first_copy_picks.nothing _) };
    copied = λ at ρ P n k le o traverse.
        let here = ne_eqb (at + 1) f (λ e. omega arith) in
        let below = le-ltb (at + 1) f (omega arith) in
        let inner = copies P (at + 1) ρ k (names P ρ k) in
        let same : Steady (λ c. c) = record { passes = λ c h. refl } in
        record { comes = λ g. rw (here, below, at_repl) (copy_first f same at ρ P k o inner traverse (named n g)) };
  }

  -- A process that stands before it is passed over.
  earlier : (y : ℕ) → Sweeps x (Find (y + 1) past) skip_picks (λ at P. at + size P ≤ y)
  unfolding go names at_prefix at_repl
  earlier y = record {
    part = λ part le. omega arith;
    own = λ at ρ p P n k. record { comes = λ g. refl };
    copied = λ at ρ P n k le o traverse.
        let bytes = some_bytes (Process.repl P) in
        let part = repl_part at P in
        let here = first_mark y refl at ∙ ne_eqb at y (λ e. omega arith) in
        let below = lt-ltb (at + 1) (y + 1) (omega arith) in
        let inner = held_mark y refl (at + 1) P ∙ outside y (at + 1) P (λ low high. omega arith) in
        record { comes = λ g. rw (here, below, inner, at_repl) };
  }

-- The repl thread w itself, or what comes after it.
abbrev up_to : Bool → Opened → TraversalResult → TraversalResult
up_to true w c = c
up_to false w c = found w.place w.opens []

-- Either is steady, and so the traversal meets w.
steady_up_to : (past : Bool) (w : Opened) → Steady (up_to past w)
steady_up_to true w = record { passes = λ c f. refl }
steady_up_to false w = record { passes = λ c f. refl }

meets : (x : Message) (past : Bool) (w : Opened) → Meets x (Find (w.place + 1) past) first_copy_picks w (up_to past w)
unfolding go names at_repl
meets x past w = record {
  steady = steady_up_to past w;
  there = λ o clear n. record {
    comes = λ g. rw (eq-eqb (w.place + 1) (w.place + 1) refl, at_repl) (here past (named n g));
  };
  before = λ clear at le. traverses_all x (Find (w.place + 1) past) skip_picks (earlier x past w.place) clear at le;
  after = λ clear at lt. traverses_all x (Find (w.place + 1) past) first_copy_picks (later x past (w.place + 1)) clear at (omega arith);
  around = λ at ρ P n k within o ws traverse.
      let (low, high) = inside_bounds w.place (at + 1) P within in
      let other = first_mark w.place refl at ∙ part_first w.place (repl_part at P) within in
      let below = lt-ltb (at + 1) (w.place + 1) (omega arith) in
      let inner = held_mark w.place refl (at + 1) P ∙ within in
      record {
        comes = λ g. rw (other, below, inner, at_repl)
            (copy_first x past (w.place + 1) (steady_up_to past w) at ρ P k o ws traverse (named n g));
      };
}
  where
    here : (past : Bool) (g : Accumulated)
        → elim past [ true ↦ going g | false ↦ found w.place w.opens [] ] ≡ up_to past w (going g)
    here true g = refl
    here false g = refl

-- The traversal of P meets no limit.
module _ (k : ℕ) (x : Message) (P : Process) (at : ℕ) (ρ : Bound) (g : Accumulated) (settling : over_settling P ρ g.names ≡ false)
    (offering : any_of (λ t. over_offers t k) (settle P ρ g.names) ≡ false) where
  -- From no mark on it finds the first repl thread.
  pub found_first : (past : Bool)
      → go P (Find 0 past k) x at ρ g ≡ first_copy (copies P at ρ g.names k) (going (named (names P ρ g.names) g))
  found_first past =
      (traverses_all x (Find 0 past) first_copy_picks (later x past 0) (clear P ρ g.names k settling offering) at (omega arith)).comes g

  module _ (pre post : List Opened) (w : Opened) (listed : copies P at ρ g.names k ≡ pre ++ (w ∷ post)) where
    -- From the mark of w on it finds this one again, or the next one.
    found_from : (past : Bool) → go P (Find (w.place + 1) past k) x at ρ g
        ≡ up_to past w (first_copy post (going (named (names P ρ g.names) g)))
    found_from past = (traverses_meant x (Find (w.place + 1) past) first_copy_picks (meets x past w)
        (clear P ρ g.names k settling offering) at (split_at pre listed)).comes g

    pub found_again : go P (Find (w.place + 1) false k) x at ρ g ≡ found w.place w.opens []
    found_again = found_from false

    pub found_next : go P (Find (w.place + 1) true k) x at ρ g ≡ first_copy post (going (named (names P ρ g.names) g))
    found_next = found_from true
