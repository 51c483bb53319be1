-- A process that meets no limit while it is settled and while its copies are opened, by the way that settling goes ("Judging and its
-- count").
use Prim.Native.Nat.{ℕ, suc}
use mathlib.Core.Path.{◌≡◌, refl, sym, ◌∙◌}
use mathlib.Core.Bool.{Bool, true, false, ◌||◌}
use Rattle.meaning.specs.Messages.Term.{Term, leaf, private, Message}
use Rattle.meaning.specs.Messages.Normal.{equal}
use Rattle.meaning.specs.Bytes.Process.{Prefix, Process}
use Rattle.meaning.specs.Steps.State.{Bound, ◌▸◌, written, worked, names, settle}
use Rattle.meaning.specs.Steps.Copies.{result_of}
use Rattle.meaning.specs.Logic.Truth.{any_of}
use Rattle.meaning.specs.Judging.Limits.{over, over_settling, over_prefix, over_offers}
use Rattle.meaning.proofs.Test.{neither, any_append}
use Rattle.state_progress.specs.TraversalResult.{Accumulated, named, returned}
use Rattle.state_task.specs.Machine.{opening, opened}
use Rattle.state_head.specs.Traversal.{go}
use Rattle.state_task.specs.declared.task.Task.{Task}
use Rattle.state_head.proofs.Laws.Counting.{over_repl, counted}

-- No limit is met by a process that is settled at n, its copies being opened at k.
pub data Clear : Process → Bound → ℕ → ℕ → Type 0 where
  done : {ρ : Bound} {n k : ℕ} → Clear Process.nil ρ n k
  made : {P : Process} {ρ : Bound} {n k : ℕ} → Clear P (ρ ▸ leaf (private n)) (suc n) k → Clear (Process.new P) ρ n k
  acts : {p : Prefix} {P : Process} {ρ : Bound} {n k : ℕ} → over_prefix ρ p P k ≡ false → Clear (Process.act p P) ρ n k
  then : {M N : Term} {P Q : Process} {ρ : Bound} {n k : ℕ} → (over ρ M || over ρ N) ≡ false
      → equal (written ρ M) (written ρ N) ≡ true → Clear P ρ n k → Clear (Process.if M N P Q) ρ n k
  else : {M N : Term} {P Q : Process} {ρ : Bound} {n k : ℕ} → (over ρ M || over ρ N) ≡ false
      → equal (written ρ M) (written ρ N) ≡ false → Clear Q ρ n k → Clear (Process.if M N P Q) ρ n k
  body : {M : Term} {P : Process} {ρ : Bound} {n k : ℕ} → over ρ M ≡ false → Clear P (ρ ▸ worked ρ M) n k
      → Clear (Process.let_in M P) ρ n k
  both : {P Q : Process} {ρ : Bound} {n k : ℕ} → Clear P ρ n k → Clear Q ρ (names P ρ n) k → Clear (Process.par P Q) ρ n k
  copy : {P : Process} {ρ : Bound} {n k : ℕ} → over_settling P ρ k ≡ false → Clear P ρ k (names P ρ k) → Clear (Process.repl P) ρ n k

-- So it is if the tests say so.
pub clear : (P : Process) (ρ : Bound) (n k : ℕ) → over_settling P ρ n ≡ false → any_of (λ t. over_offers t k) (settle P ρ n) ≡ false
    → Clear P ρ n k
unfolding over_settling settle any_of over_offers result_of
clear Process.nil ρ n k s o = done
clear (Process.new P) ρ n k s o = made (clear P _ _ k s o)
clear (Process.act p P) ρ n k s o = acts (neither (over_prefix ρ p P k) false o).0
clear (Process.if M N P Q) ρ n k s o =
    let (terms, branch) = neither (over ρ M || over ρ N) _ s in
    by_test terms (clear P ρ n k) (clear Q ρ n k) (equal (written ρ M) (written ρ N)) refl branch o
  where
    Passed : Process → Type 0
    Passed R = over_settling R ρ n ≡ false → any_of (λ t. over_offers t k) (settle R ρ n) ≡ false → Clear R ρ n k

    by_test : (over ρ M || over ρ N) ≡ false → Passed P → Passed Q → (b : Bool) → equal (written ρ M) (written ρ N) ≡ b
        → elim b [ true ↦ over_settling P ρ n | false ↦ over_settling Q ρ n ] ≡ false
        → any_of (λ t. over_offers t k) (elim b [ true ↦ settle P ρ n | false ↦ settle Q ρ n ]) ≡ false → Clear (Process.if M N P Q) ρ n k
    by_test terms p q true e s o = then terms e (p s o)
    by_test terms p q false e s o = else terms e (q s o)
clear (Process.let_in M P) ρ n k s o = let (term, rest) = neither (over ρ M) _ s in body term (clear P _ n k rest o)
clear (Process.par P Q) ρ n k s o =
    let (left, right) = neither (over_settling P ρ n) (over_settling Q ρ (names P ρ n)) s in
    let (p, q) = neither _ _ (sym (any_append (λ t. over_offers t k) (settle P ρ n) (settle Q ρ (names P ρ n))) ∙ o) in
    both (clear P ρ n k left p) (clear Q ρ (names P ρ n) k right q)
clear (Process.repl P) ρ n k s o =
    let (settling, inner) = neither (over_settling P ρ k) _ (sym (over_repl ρ P k) ∙ (neither _ _ o).0) in
    copy settling (clear P ρ k (names P ρ k) settling inner)

-- A copy that meets no limit while it is settled is opened, and the task is done in it.
pub opens : (P : Process) (T : Task) (x : Message) (at : ℕ) (ρ : Bound) (n : ℕ) (g : Accumulated) → over_settling P ρ n ≡ false
    → opened (λ U. go P U x at ρ) T n g ≡ returned g.names (go P (opening T (names P ρ n)) x at ρ (named n g))
unfolding opened
opens P T x at ρ n g e = rw (counted P x at ρ (named n g), e)
