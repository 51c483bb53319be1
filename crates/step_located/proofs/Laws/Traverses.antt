-- Traversals that seek something in a process that meets no limit: each finds the first of a list, or goes on ("Steps").
use Prim.Native.Nat.{ℕ, suc, ◌+◌}
use mathlib.Core.Path.{◌≡◌, refl, sym, ◌∙◌, ap}
use mathlib.Core.Bool.{true, false, ◌||◌}
use mathlib.Core.List.{List, [], ◌∷◌, ◌++◌}
use Rattle.meaning.specs.Messages.Term.{Term, leaf, private, Message}
use Rattle.meaning.specs.Messages.Normal.{equal}
use Rattle.meaning.specs.Bytes.Process.{Process}
use Rattle.meaning.specs.Steps.State.{Bound, ◌▸◌, written, worked, names}
use Rattle.meaning.specs.Judging.Limits.{over, over_settling}
use Rattle.meaning.proofs.Test.{chosen as tested}
use Rattle.state_record.specs.Place.{then_at, else_at, body_at, right_at}
use Rattle.step_located.specs.Located.{LocatedOffer}
use Rattle.state_progress.specs.TraversalResult.{Accumulated, TraversalResult, going, further, named, returned}
use Rattle.state_task.specs.Machine.{opening, opened}
use Rattle.state_head.specs.Traversal.{go}
use Rattle.step_located.specs.Sought.{wanted, first, Opened, first_copy}
use Rattle.state_task.specs.declared.task.Task.{Task}
use Rattle.state_task.specs.declared.task.Quest.{Quest}
use Rattle.step_located.proofs.Laws.Clear.{opens}

-- What a traversal of a process settled at n comes to, by what is made of the course of a traversal that just goes on.
pub record Traverses (T : Task) (x : Message) (P : Process) (at : ℕ) (ρ : Bound) (n : ℕ) (F : TraversalResult → TraversalResult) : Type 0 where
  pub comes : (g : Accumulated) → go P T x at ρ (named n g) ≡ F (going (named (names P ρ n) g))

-- What comes after a course is made a part of it.
pub record Steady (F : TraversalResult → TraversalResult) : Type 0 where
  pub passes : (c : TraversalResult) (f : Accumulated → TraversalResult) → further (F c) f ≡ F (further c f)

pub steady_both : {F G : TraversalResult → TraversalResult} → Steady F → Steady G → Steady (λ c. F (G c))
steady_both {F} p q = record { passes = λ c f. p.passes _ f ∙ ap F (q.passes c f) }

-- The same thing may be made of it in another way.
pub traverses_as : {T : Task} {x : Message} {P : Process} {at : ℕ} {ρ : Bound} {n : ℕ} {F G : TraversalResult → TraversalResult} → ((c : TraversalResult) → G c ≡ F c)
    → Traverses T x P at ρ n F → Traverses T x P at ρ n G
traverses_as same p = record { comes = λ g. p.comes g ∙ sym (same _) }

-- The way of settling: a name is made, a branch is taken, a message is bound, one process comes after another.
module _ {T : Task} {x : Message} {P : Process} {ρ : Bound} {n : ℕ} {F : TraversalResult → TraversalResult} where
  pub traverses_new : (at : ℕ) → Traverses T x P (at + 1) (ρ ▸ leaf (private n)) (suc n) F → Traverses T x (Process.new P) at ρ n F
  unfolding go names
  traverses_new at p = record { comes = λ g. p.comes g }

  pub traverses_then : (at : ℕ) (M N : Term) (Q : Process) → (over ρ M || over ρ N) ≡ false → equal (written ρ M) (written ρ N) ≡ true
      → Traverses T x P (then_at at M N) ρ n F → Traverses T x (Process.if M N P Q) at ρ n F
  unfolding go names
  traverses_then at M N Q o e p = record { comes = λ g. rw (o, e, names) (p.comes g) }

  pub traverses_else : (at : ℕ) (M N : Term) (Q : Process) → (over ρ M || over ρ N) ≡ false → equal (written ρ M) (written ρ N) ≡ false
      → Traverses T x P (else_at at M N Q) ρ n F → Traverses T x (Process.if M N Q P) at ρ n F
  unfolding go names
  traverses_else at M N Q o e p = record { comes = λ g. rw (o, e, names) (p.comes g) }

  pub traverses_body : (at : ℕ) (M : Term) → over ρ M ≡ false → Traverses T x P (body_at at M) (ρ ▸ worked ρ M) n F
      → Traverses T x (Process.let_in M P) at ρ n F
  unfolding go names
  traverses_body at M o p = record { comes = λ g. rw o (p.comes g) }

  pub traverses_both : (at : ℕ) {Q : Process} {G H : TraversalResult → TraversalResult} → Steady F → ((c : TraversalResult) → H c ≡ F (G c)) → Traverses T x P (at + 1) ρ n F
      → Traverses T x Q (right_at at P) ρ (names P ρ n) G → Traverses T x (Process.par P Q) at ρ n H
  unfolding go names
  traverses_both at {Q} steady same p q = record {
    comes = λ g. ap (λ c. further c (go Q T x (right_at at P) ρ)) (p.comes g) ∙ steady.passes _ _ ∙ ap F (q.comes g) ∙ sym (same _);
  }

  -- A copy is traversed from n on, and the names that it took are given back; or it is opened at n, and then the task is done in it.
  pub traverses_back : (at : ℕ) → Steady F → Traverses T x P at ρ n F → (g : Accumulated)
      → returned g.names (go P T x at ρ (named n g)) ≡ F (going g)
  traverses_back at steady p g = rw (p.comes g) (steady.passes _ _)

  pub traverses_copy : (at : ℕ) (U : Task) → over_settling P ρ n ≡ false → opening U (names P ρ n) ≡ T → Steady F → Traverses T x P at ρ n F
      → (g : Accumulated) → opened (λ U'. go P U' x at ρ) U n g ≡ F (going g)
  traverses_copy at U o e steady p g = rw (opens P U x at ρ n g o, e) (traverses_back at steady p g)

-- The first of a list, or the course that is given.
pub record Picks {A : Type 0} (pick : List A → TraversalResult → TraversalResult) : Type 0 where
  pub nothing : (c : TraversalResult) → pick [] c ≡ c
  pub joined : (xs ys : List A) (c : TraversalResult) → pick (xs ++ ys) c ≡ pick xs (pick ys c)
  pub steady : (xs : List A) → Steady (pick xs)

-- The first offer that is wanted; the first repl thread.
pub first_picks : (q : Quest) (x : Message) → Picks (first q x)
unfolding first
first_picks q x = record { nothing = λ c. refl; joined = joins; steady = λ os. record { passes = passes os } }
  where
    joins : (os us : List LocatedOffer) (c : TraversalResult) → first q x (os ++ us) c ≡ first q x os (first q x us c)
    joins [] us c = refl
    joins (a ∷ os) us c = tested ◌≡◌ (wanted q x a) refl (joins os us c)

    passes : (os : List LocatedOffer) (c : TraversalResult) (f : Accumulated → TraversalResult) → further (first q x os c) f ≡ first q x os (further c f)
    passes [] c f = refl
    passes (a ∷ os) c f = tested (λ c d. further c f ≡ d) (wanted q x a) refl (passes os c f)

pub first_copy_picks : Picks first_copy
unfolding first_copy
first_copy_picks = record { nothing = λ c. refl; joined = joins; steady = λ ws. record { passes = passes ws } }
  where
    joins : (ws us : List Opened) (c : TraversalResult) → first_copy (ws ++ us) c ≡ first_copy ws (first_copy us c)
    joins [] us c = refl
    joins (w ∷ ws) us c = refl

    passes : (ws : List Opened) (c : TraversalResult) (f : Accumulated → TraversalResult) → further (first_copy ws c) f ≡ first_copy ws (further c f)
    passes [] c f = refl
    passes (w ∷ ws) c f = refl

-- Nothing is picked.
abbrev pub skip : List Opened → TraversalResult → TraversalResult
skip ws c = c

pub skip_picks : Picks skip
skip_picks = record { nothing = λ c. refl; joined = λ ws us c. refl; steady = λ ws. record { passes = λ c f. refl } }
