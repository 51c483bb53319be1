-- Where the marks of a task do not stand, a traversal does not heed them ("Steps").
use Prim.Native.Nat.{ℕ, ◌+◌, ◌≤◌, ◌<◌}
use native.Mathlib.Omega.{arith}
use mathlib.Core.Path.{◌≡◌, refl, sym, ◌∙◌, ap, ap₂, fun_ext}
use mathlib.Core.Bool.{Bool, true, false, ◌||◌, true≢false, and-eq-true_iff}
use lib.Dec.{eqb}
use borrow.Author.Tests.{ltb-true, ltb-false, lt-ltb, le-ltb, eq-eqb, ne_eqb, not-true}
use Rattle.meaning.specs.Messages.Term.{Message}
use Rattle.meaning.specs.Messages.Normal.{equal}
use Rattle.meaning.specs.Bytes.Process.{Prefix, Process}
use Rattle.meaning.specs.Steps.State.{Bound, ◌▸◌, written, act, repl}
use Rattle.meaning.specs.Judging.Limits.{over}
use Rattle.meaning.proofs.Test.{chosen as tested}
use Rattle.state_progress.specs.TraversalResult.{Accumulated, TraversalResult, further, unless, named, returned, push}
use Rattle.state_task.specs.Machine.{contains, opening, taking, opened, built_copy, at_repl}
use Rattle.state_head.specs.Traversal.{built, at_prefix, go}
use Rattle.step_located.specs.Located.{inside}
use Rattle.state_task.specs.declared.task.Task.{Task}
use Rattle.state_task.specs.declared.task.Task.TheVariants.{Build, BuildIn}
use Rattle.state_task.specs.declared.task.CopyAt.{CopyAt}
use Rattle.state_task.specs.declared.task.Plan.{Plan}
use Rattle.step_located.proofs.Laws.Located.{size, Part, new_part, then_part, else_part, let_part, left_part, right_part, repl_part}
use Rattle.step_located.proofs.Laws.Located.{inside_bounds, bounds_inside, some_bytes}

both_ways : (a b : Bool) → (a ≡ true → b ≡ true) → (b ≡ true → a ≡ true) → a ≡ b
both_ways true b f g = sym (f refl)
both_ways false true f g = g refl
both_ways false false f g = refl

-- A mark of a process is above its position, and at most at its end.
module _ (m at : ℕ) (P : Process) where
  holds_bounds : contains m at P ≡ true → (at < m) × (m ≤ at + size P)
  unfolding contains
  holds_bounds e =
      let h = (and-eq-true_iff _ _).0 e in
      (ltb-true at m h.0, ltb-false (at + size P) m (not-true _ h.1))

  bounds_holds : at < m → m ≤ at + size P → contains m at P ≡ true
  unfolding contains
  bounds_holds low high = rw (lt-ltb at m low, le-ltb (at + size P) m high)

-- It is that of a position, or none.
pub holds_inside : (x at : ℕ) (P : Process) → contains (x + 1) at P ≡ inside x at P
holds_inside x at P =
    both_ways _ _ (λ e. let b = holds_bounds (x + 1) at P e in bounds_inside x at P (omega arith) (omega arith))
    (λ e. let b = inside_bounds x at P e in bounds_holds (x + 1) at P (omega arith) (omega arith))

pub holds_none : (at : ℕ) (P : Process) → contains 0 at P ≡ false
holds_none at P = both_ways _ _ (λ e. let b = holds_bounds 0 at P e in absurd (omega arith)) (λ e. absurd (true≢false (sym e)))

-- A mark that is none of the process is not that of its first byte, and none of a part of it.
abbrev pub Out : ℕ → (at : ℕ) → Process → Type 0
Out m at P = contains m at P ≡ false

pub out_first : (m at : ℕ) (P : Process) → Out m at P → eqb (at + 1) m ≡ false
out_first m at P out =
    ne_eqb (at + 1) m (λ e. true≢false (sym (bounds_holds m at P (omega arith) (omega (arith, some_bytes P))) ∙ out))

pub out_part : (m : ℕ) {at at' : ℕ} {P P' : Process} → Part at P at' P' → Out m at P → Out m at' P'
out_part m {at} {at'} {P} {P'} part out =
    both_ways _ _ (λ e.
    let b = holds_bounds m at' P' e in
    absurd (true≢false (sym (bounds_holds m at P (omega arith) (omega arith)) ∙ out))) (λ e. absurd (true≢false (sym e)))

-- A task writes every thread of a process at which its marks are not; R says where they are not.
pub record Plain (R : (at : ℕ) → Process → Type 0) (T : Task) (x : Message) : Type 0 where
  pub narrow : {at at' : ℕ} {P P' : Process} → Part at P at' P' → R at P → R at' P'
  pub at_thread : (at : ℕ) (ρ : Bound) (p : Prefix) (P : Process) (rest : Bound → Accumulated → TraversalResult) (g : Accumulated) → R at (Process.act p P)
      → at_prefix T x at ρ p P rest g ≡ push at (act ρ p P) g
  pub at_copy : (at : ℕ) (ρ : Bound) (P : Process) (copy : Task → Accumulated → TraversalResult) (g : Accumulated) → R at (Process.repl P)
      → at_repl T at ρ P copy g ≡ push at (repl ρ P) g

pub build_plain : (b : Plan) (k : ℕ) (x : Message) → Plain (λ at P. Out b.sender at P × Out b.taker at P) (Build b k) x
unfolding at_prefix built at_repl built_copy
build_plain b k x = record {
  narrow = λ part (s, t). (out_part b.sender part s, out_part b.taker part t);
  at_thread = λ at ρ p P rest g (s, t).
      rw (out_first b.sender at (Process.act p P) s, out_first b.taker at (Process.act p P) t, built);
  at_copy = λ at ρ P copy g (s, t).
      rw (out_part b.sender (repl_part at P) s, out_part b.taker (repl_part at P) t, built_copy);
}

pub build_in_plain : (b : Plan) (c : CopyAt) (k : ℕ) (x : Message) → Plain (Out c.place) (BuildIn b c k) x
unfolding at_prefix at_repl
build_in_plain b c k x = record {
  narrow = λ part out. out_part c.place part out;
  at_thread = λ at ρ p P rest g out. refl;
  at_copy = λ at ρ P copy g out. rw (out_first c.place at (Process.repl P) out, out_part c.place (repl_part at P) out);
}

-- One thread alone acts, with a mark; what follows it is settled at the private name r under more messages. R says where no other mark is.
pub record Only (R : (at : ℕ) → Process → Type 0) (b : Plan) (x : Message) (mark r : ℕ) (more : Bound → Bound) : Type 0 where
  pub narrow : {at at' : ℕ} {P P' : Process} → Part at P at' P' → R at P → R at' P'
  pub plain : (k : ℕ) → Plain (λ at P. Out mark at P × R at P) (Build b k) x
  pub at_thread : (at : ℕ) (ρ : Bound) (p : Prefix) (P : Process) (rest : Bound → Accumulated → TraversalResult) (g : Accumulated) → mark ≡ at + 1
      → built b x at ρ p P rest g ≡ returned g.names (rest (more ρ) (named r g))
  pub in_copy : (k at : ℕ) (P : Process) (copy : Task → Accumulated → TraversalResult) (g : Accumulated) → contains mark (at + 1) P ≡ true
      → built_copy b k at P copy g ≡ opened copy (Build b k) k g

pub sender_only : (b : Plan) (x : Message) → Only (Out b.taker) b x b.sender b.rest (λ ρ. ρ)
unfolding built built_copy
sender_only b x = record {
  narrow = λ part out. out_part b.taker part out;
  plain = λ k. build_plain b k x;
  at_thread = λ at ρ p P rest g e. rw (eq-eqb (at + 1) b.sender (sym e), built);
  in_copy = λ k at P copy g e. rw (e, built_copy);
}

pub taker_only : (b : Plan) (x : Message) → b.sender ≡ 0 → Only (λ at P. Unit {0}) b x b.taker b.last (λ ρ. ρ ▸ x)
unfolding built built_copy
taker_only b x z = record {
  narrow = λ part u. u;
  plain = λ k. record {
    narrow = λ part (t, u). (out_part b.taker part t, u);
    at_thread = λ at ρ p P rest g (t, u). (build_plain b k x).at_thread at ρ p P rest g (rw z (holds_none at (Process.act p P)), t);
    at_copy = λ at ρ P copy g (t, u). (build_plain b k x).at_copy at ρ P copy g (rw z (holds_none at (Process.repl P)), t);
  };
  at_thread = λ at ρ p P rest g e. rw (ne_eqb (at + 1) b.sender (omega arith), eq-eqb (at + 1) b.taker (sym e), built);
  in_copy = λ k at P copy g e.
      let absent : Out b.sender (at + 1) P = rw z (holds_none (at + 1) P) in
      rw (absent, e, eq-eqb b.sender 0 z, built_copy);
}

-- Where the sender is not, its taker's copies open at the second name.
module _ (b : Plan) (k : ℕ) (some : ¬ (b.sender ≡ 0)) where
  copy_taken : (at : ℕ) (P : Process) (copy : Task → Accumulated → TraversalResult) (g : Accumulated) → Out b.sender (at + 1) P
      → built_copy b k at P copy g ≡ built_copy (taking b) b.second at P copy g
  unfolding built_copy opened opening
  copy_taken at P copy g out =
      rw (out, holds_none (at + 1) P, built_copy) (tested ◌≡◌ (contains b.taker (at + 1) P) (rw (ne_eqb b.sender 0 some)) refl)

  pub taken : (P : Process) (x : Message) (at : ℕ) (ρ : Bound) (g : Accumulated) → Out b.sender at P
      → go P (Build b k) x at ρ g ≡ go P (Build (taking b) b.second) x at ρ g
  unfolding go at_prefix built at_repl
  taken Process.nil x at ρ g out = refl
  taken (Process.new P) x at ρ g out = taken P x _ _ _ (out_part b.sender (new_part at P) out)
  taken (Process.act p P) x at ρ g out = rw (out_first b.sender at (Process.act p P) out, ne_eqb (at + 1) 0 (omega arith), built)
  taken (Process.if M N P Q) x at ρ g out =
      ap (unless (over ρ M || over ρ N)) (tested ◌≡◌ (equal (written ρ M) (written ρ N))
      (taken P x _ ρ g (out_part b.sender (then_part at M N P Q) out))
      (taken Q x _ ρ g (out_part b.sender (else_part at M N P Q) out)))
  taken (Process.let_in M P) x at ρ g out = ap (unless (over ρ M)) (taken P x _ _ g (out_part b.sender (let_part at M P) out))
  taken (Process.par P Q) x at ρ g out =
      ap₂ further (taken P x _ ρ g (out_part b.sender (left_part at P Q) out))
      (fun_ext λ h. taken Q x _ ρ h (out_part b.sender (right_part at P Q) out))
  taken (Process.repl P) x at ρ g out =
      let copy : Task → Accumulated → TraversalResult = λ U. go P U x (at + 1) ρ in
      ap (λ c. further c (push at (repl ρ P))) (copy_taken at P copy g (out_part b.sender (repl_part at P) out))
