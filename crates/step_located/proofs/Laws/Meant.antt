-- Traversals that look for one repl thread of a process that meets no limit, copies being opened on the way ("Steps").
use Prim.Native.Nat.{ℕ, ◌+◌, ◌≤◌, ◌<◌}
use mathlib.Core.Path.{◌≡◌, refl, sym, ap, subst}
use mathlib.Core.Bool.{true, false}
use mathlib.Core.Logic.{inl, inr}
use mathlib.Core.List.{List, [], ◌∷◌, ◌++◌}
use Rattle.meaning.specs.Messages.Term.{Message}
use Rattle.meaning.specs.Bytes.Process.{Prefix, Process}
use Rattle.meaning.specs.Steps.State.{Bound, names}
use Rattle.meaning.specs.Steps.Offer.{Split}
use Rattle.meaning.specs.Judging.Limits.{over_settling}
use Rattle.meaning.proofs.Every.{every_split}
use Rattle.state_record.specs.Place.{right_at}
use Rattle.step_located.specs.Located.{inside}
use Rattle.state_progress.specs.TraversalResult.{TraversalResult}
use Rattle.state_head.specs.Traversal.{go}
use Rattle.step_located.specs.Sought.{Opened, copies}
use Rattle.state_task.specs.declared.task.Task.{Task}
use Rattle.step_located.proofs.Laws.Located.{size, Part, inside_bounds}
use Rattle.step_located.proofs.Laws.Located.{new_part, then_part, else_part, let_part, left_part, right_part, repl_part}
use Rattle.step_located.proofs.Laws.Clear.{Clear, done, made, acts, then, else, body, both, copy}
use Rattle.step_located.proofs.Laws.Traverses.{Traverses, Steady, steady_both, traverses_as, Picks}
use Rattle.step_located.proofs.Laws.Traverses.{traverses_new, traverses_then, traverses_else, traverses_body, traverses_both}
use Rattle.step_located.proofs.Laws.Copies.{copies_inside, split_none, split_joined, split_single}

module _ (x : Message) (T : ℕ → Task) {pick : List Opened → TraversalResult → TraversalResult} (picks : Picks pick) where
  -- The traversal picks from the repl threads of P.
  abbrev pub Over : Process → (at : ℕ) → Bound → (n k : ℕ) → Type 0
  Over P at ρ n k = Traverses (T k) x P at ρ n (pick (copies P at ρ n k))

  -- It does so with every thread of a process that has the property Q, which goes over to parts.
  pub record Sweeps (Q : ℕ → Process → Type 0) : Type 0 where
    pub part : {at at' : ℕ} {P P' : Process} → Part at P at' P' → Q at P → Q at' P'
    pub own : (at : ℕ) (ρ : Bound) (p : Prefix) (P : Process) (n k : ℕ) → Over (Process.act p P) at ρ n k
    pub copied : (at : ℕ) (ρ : Bound) (P : Process) (n k : ℕ) → Q at (Process.repl P) → over_settling P ρ k ≡ false
        → Over P (at + 1) ρ k (names P ρ k) → Over (Process.repl P) at ρ n k

  -- Then it does so with the whole process.
  pub traverses_all : {Q : ℕ → Process → Type 0} → Sweeps Q → {P : Process} {ρ : Bound} {n k : ℕ} → Clear P ρ n k → (at : ℕ) → Q at P
      → Over P at ρ n k
  unfolding go names copies
  traverses_all s (done {n = n}) at q = record { comes = λ g. sym (picks.nothing _) }
  traverses_all s (made {P} c) at q = traverses_new at (traverses_all s c _ (s.part (new_part at P) q))
  traverses_all s (acts {p} {P} {ρ} {n} {k} o) at q = s.own at ρ p P n k
  traverses_all s (then {M} {N} {P} {Q} o e c) at q =
      rw (e, copies) (traverses_then at M N Q o e (traverses_all s c _ (s.part (then_part at M N P Q) q)))
  traverses_all s (else {M} {N} {P} {Q} o e c) at q =
      rw (e, copies) (traverses_else at M N P o e (traverses_all s c _ (s.part (else_part at M N P Q) q)))
  traverses_all s (body {M} {P} o c) at q = traverses_body at M o (traverses_all s c _ (s.part (let_part at M P) q))
  traverses_all s (both {P} {Q} c d) at q =
      traverses_both at (picks.steady _) (picks.joined _ _) (traverses_all s c _ (s.part (left_part at P Q) q))
      (traverses_all s d _ (s.part (right_part at P Q) q))
  traverses_all s (copy {P} {ρ} {n} {k} o c) at q = s.copied at ρ P n k q o (traverses_all s c _ (s.part (repl_part at P) q))

  -- At a repl thread w that meets no limit something is made of the course, by meet.
  abbrev There : Opened → (TraversalResult → TraversalResult) → Type 0
  There w meet =
      over_settling w.copied w.bound w.opens ≡ false
      → Clear w.copied w.bound w.opens (names w.copied w.bound w.opens)
      → (n : ℕ) → Traverses (T w.opens) x (Process.repl w.copied) w.place w.bound n meet

  -- This repl thread is meant: a process before it is passed over, and from the repl threads of one after it is picked, as from the
  -- rest of a copy that it is in and then the repl thread of that copy.
  pub record Meets (w : Opened) (meet : TraversalResult → TraversalResult) : Type 0 where
    pub steady : Steady meet
    pub there : There w meet
    pub before : {P : Process} {ρ : Bound} {n k : ℕ} → Clear P ρ n k → (at : ℕ) → at + size P ≤ w.place
        → Traverses (T k) x P at ρ n (λ c. c)
    pub after : {P : Process} {ρ : Bound} {n k : ℕ} → Clear P ρ n k → (at : ℕ) → w.place < at → Over P at ρ n k
    pub around : (at : ℕ) (ρ : Bound) (P : Process) (n k : ℕ) → inside w.place (at + 1) P ≡ true → over_settling P ρ k ≡ false
        → (ws : List Opened) → Traverses (T (names P ρ k)) x P (at + 1) ρ k (λ c. meet (pick ws c))
        → let v : Opened = record { place = at; bound = ρ; copied = P; opens = k } in
        Traverses (T k) x (Process.repl P) at ρ n (λ c. meet (pick (ws ++ (v ∷ [])) c))

  -- Then meet is made of what is picked from the repl threads after this one.
  pub traverses_meant : {w : Opened} {meet : TraversalResult → TraversalResult} → Meets w meet → {P : Process} {ρ : Bound} {n k : ℕ} → Clear P ρ n k → (at : ℕ)
      → {l r : List Opened} → Split (copies P at ρ n k) l w r → Traverses (T k) x P at ρ n (λ c. meet (pick r c))
  unfolding copies
  traverses_meant s done at p = absurd (split_none p)
  traverses_meant s (made c) at p = traverses_new at (traverses_meant s c _ p)
  traverses_meant s (acts o) at p = absurd (split_none p)
  traverses_meant s (then {M} {N} {P} {Q} o e c) at p = traverses_then at M N Q o e (traverses_meant s c _ (rw (e, copies) at p))
  traverses_meant s (else {M} {N} {P} {Q} o e c) at p = traverses_else at M N P o e (traverses_meant s c _ (rw (e, copies) at p))
  traverses_meant s (body {M} o c) at p = traverses_body at M o (traverses_meant s c _ p)
  traverses_meant {meet} s (both {P} {Q} {ρ} {n} {k} c d) at p =
      elim (split_joined (copies P (at + 1) ρ n k) p) [
        | inl t ↦
            let (r', p', e) = t in
            let b = inside_bounds _ (at + 1) P (every_split p' (copies_inside P (at + 1) ρ n k)).1 in
            let others = copies Q (right_at at P) ρ (names P ρ n) k in
            let steady = steady_both s.steady (picks.steady r') in
            rw e (traverses_both at steady (λ c. ap meet (picks.joined r' others c)) (traverses_meant s c _ p') (s.after d (right_at at P) b.1))
        | inr t ↦
            let (l', p') = t in
            let b = inside_bounds _ (right_at at P) Q (every_split p' (copies_inside Q (right_at at P) ρ (names P ρ n) k)).1 in
            traverses_both at (record { passes = λ c f. refl }) (λ c. refl) (s.before c (at + 1) b.0) (traverses_meant s d _ p')
      ]
  traverses_meant {meet} s (copy {P} {ρ} {n} {k} o c) at p =
      elim (split_joined (copies P (at + 1) ρ k (names P ρ k)) p) [
        | inl t ↦
            let (r', p', e) = t in
            let within = (every_split p' (copies_inside P (at + 1) ρ k (names P ρ k))).1 in
            rw e (s.around at ρ P n k within o r' (traverses_meant s c _ p'))
        | inr t ↦
            let (e, f) = split_single t.1 in
            rw f (traverses_as (λ c. ap meet (picks.nothing c)) (subst (λ v. There v meet) (sym e) s.there o c n))
      ]
