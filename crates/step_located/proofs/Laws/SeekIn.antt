-- What a traversal finds that seeks an offer in the copies of one repl thread of a process that meets no limit ("Steps").
use Prim.Native.Nat.{ℕ, ◌+◌}
use native.Mathlib.Omega.{arith}
use mathlib.Core.Path.{◌≡◌, refl, ◌∙◌}
use mathlib.Core.Bool.{false}
use mathlib.Core.List.{List, ◌∷◌, ◌++◌}
use borrow.Author.Tests.{eq-eqb}
use Rattle.meaning.specs.Messages.Term.{Message}
use Rattle.meaning.specs.Bytes.Process.{Process}
use Rattle.meaning.specs.Steps.State.{Bound, names, settle}
use Rattle.meaning.specs.Logic.Truth.{any_of}
use Rattle.meaning.specs.Judging.Limits.{over_settling, over_offers}
use Rattle.step_located.specs.Located.{LocatedOffer, inside}
use Rattle.state_progress.specs.TraversalResult.{Accumulated, going, named}
use Rattle.state_task.specs.Machine.{opening, sought_in, at_repl}
use Rattle.state_head.specs.Traversal.{at_prefix, go}
use Rattle.step_located.specs.Sought.{first, offers_except, Opened, copies}
use Rattle.state_task.specs.declared.task.Task.TheVariants.{Seek, SeekIn}
use Rattle.state_task.specs.declared.task.Quest.{Quest}
use Rattle.state_task.specs.declared.task.CopyAt.{CopyAt}
use Rattle.step_located.proofs.Laws.Located.{outside, outside_first, part_outside, part_first, repl_part}
use Rattle.step_located.proofs.Laws.Clear.{Clear, clear}
use Rattle.step_located.proofs.Laws.Traverses.{traverses_back, traverses_copy, first_picks, skip_picks}
use Rattle.step_located.proofs.Laws.Copies.{split_at}
use Rattle.step_located.proofs.Laws.Meant.{Sweeps, traverses_all, Meets, traverses_meant}
use Rattle.step_located.proofs.Laws.SeekFirst.{first_mark, held_mark, seeks_first}

module _ (q : Quest) (c : CopyAt) (x : Message) where
  -- A process that does not have the meant position in it is passed over.
  passed : (y : ℕ) → c.place ≡ y + 1 → Sweeps x (SeekIn q c) skip_picks (λ at P. inside y at P ≡ false)
  unfolding go names at_prefix at_repl
  passed y e = record {
    part = λ part out. part_outside y part out;
    own = λ at ρ p P n k. record { comes = λ g. refl };
    copied = λ at ρ P n k out o traverse.
        let here = first_mark y e at ∙ outside_first y at (Process.repl P) out in
        let inner = held_mark y e (at + 1) P ∙ part_outside y (repl_part at P) out in
        record { comes = λ g. rw (here, inner, at_repl) };
  }

  module _ (w : Opened) (meant : c.place ≡ w.place + 1) (L : List LocatedOffer) where
    -- The copies of the repl thread w, if it meets no limit, have the offers L.
    abbrev Offering : Type 0
    Offering =
        over_settling w.copied w.bound w.opens ≡ false
        → Clear w.copied w.bound w.opens (names w.copied w.bound w.opens)
        → (g : Accumulated) → sought_in q c w.opens (λ U. go w.copied U x (w.place + 1) w.bound) g ≡ first q x L (going g)

    -- So the traversal meets w, and finds the first of them that is looked for.
    meets : Offering → Meets x (SeekIn q c) skip_picks w (first q x L)
    unfolding go names opening at_repl
    meets offering =
        let passing = passed w.place meant in
        record {
          steady = (first_picks q x).steady L;
          there = λ o clear n.
              let here = first_mark w.place meant w.place ∙ eq-eqb w.place w.place refl in
              record { comes = λ g. rw (here, at_repl) (offering o clear (named n g)) };
          before = λ clear at le. traverses_all x (SeekIn q c) skip_picks passing clear at (outside w.place at _ (λ low high. omega arith));
          after = λ clear at lt. traverses_all x (SeekIn q c) skip_picks passing clear at (outside w.place at _ (λ low high. omega arith));
          around = λ at ρ P n k within o ws traverse.
              let here = first_mark w.place meant at ∙ part_first w.place (repl_part at P) within in
              let inner = held_mark w.place meant (at + 1) P ∙ within in
              record {
                comes = λ g. rw (here, inner, at_repl)
                    (traverses_copy (at + 1) (SeekIn q c k) o refl ((first_picks q x).steady L) traverse (named n g));
              };
        }

-- The traversal of P meets no limit, and c means its repl thread w.
module _ (q : Quest) (c : CopyAt) (k : ℕ) (x : Message) (P : Process) (at : ℕ) (ρ : Bound) (g : Accumulated)
    (settling : over_settling P ρ g.names ≡ false) (offering : any_of (λ t. over_offers t k) (settle P ρ g.names) ≡ false)
    (pre post : List Opened) (w : Opened) (listed : copies P at ρ g.names k ≡ pre ++ (w ∷ post)) (meant : c.place ≡ w.place + 1) where
  -- It finds the first of the offers L that are looked for.
  abbrev pub Finds : List LocatedOffer → Type 0
  Finds L = go P (SeekIn q c k) x at ρ g ≡ first q x L (going (named (names P ρ g.names) g))

  -- It does so if the copies of w have them.
  finds : (L : List LocatedOffer) → Offering q c x w meant L → Finds L
  finds L own = (traverses_meant x (SeekIn q c) skip_picks (meets q c x w meant L own) (clear P ρ g.names k settling offering) at
      (split_at pre listed)).comes g

  -- In the first copy: its own offers.
  pub sought_in_first : c.arity ≡ 0
      → Finds (offers_except q.excluded w.copied (w.place + 1) w.bound w.opens (names w.copied w.bound w.opens))
  unfolding sought_in opening
  sought_in_first m = finds _ (λ o clear h.
      rw (m, sought_in) (traverses_copy (w.place + 1) (Seek q w.opens) o refl ((first_picks q x).steady _)
      (seeks_first q x clear (w.place + 1)) h))

  -- In the same copy once more: those of its threads, copies inside it being opened at the second name.
  pub sought_in_same : c.arity ≡ 1 → any_of (λ t. over_offers t c.second) (settle w.copied w.bound w.opens) ≡ false
      → Finds (offers_except q.excluded w.copied (w.place + 1) w.bound w.opens c.second)
  unfolding sought_in
  sought_in_same m e = finds _ (λ o _ h.
      rw (m, sought_in, m) (traverses_back (w.place + 1) ((first_picks q x).steady _)
      (seeks_first q x (clear w.copied w.bound w.opens c.second o e) (w.place + 1)) h))

  -- In a second copy, which opens at the second name.
  pub sought_in_second : c.arity ≡ 2 → over_settling w.copied w.bound c.second ≡ false
      → any_of (λ t. over_offers t (names w.copied w.bound c.second)) (settle w.copied w.bound c.second) ≡ false
      → Finds (offers_except q.excluded w.copied (w.place + 1) w.bound c.second (names w.copied w.bound c.second))
  unfolding sought_in opening
  sought_in_second m o e = finds _ (λ _ _ h.
      rw (m, sought_in, m) (traverses_copy (w.place + 1) (Seek q w.opens) o refl ((first_picks q x).steady _)
      (seeks_first q x (clear w.copied w.bound c.second _ o e) (w.place + 1)) h))
