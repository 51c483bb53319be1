-- A `new`, an `if` or a `let` leads to another process, which is settled and traversed in its place; so induction may pass over these
-- three ("Steps").
use Prim.Native.Nat.{ℕ, suc, ◌+◌}
use mathlib.Core.Path.{◌≡◌, refl}
use mathlib.Core.Bool.{Bool, true, false, ◌||◌}
use mathlib.Core.Logic.{◌⊎◌, inl, inr}
use mathlib.Core.List.{List}
use Rattle.meaning.specs.Messages.Term.{leaf, private, Term, Message}
use Rattle.meaning.specs.Messages.Normal.{equal}
use Rattle.meaning.specs.Bytes.Process.{Prefix, Process}
use Rattle.meaning.specs.Steps.State.{Bound, ◌▸◌, written, worked, Thread, names, settle}
use Rattle.meaning.specs.Judging.Limits.{over, over_settling}
use Rattle.meaning.proofs.Test.{neither}
use Rattle.state_record.specs.Place.{then_at, else_at, body_at, right_at}
use Rattle.state_record.specs.Record.{Placed}
use Rattle.state_progress.specs.TraversalResult.{Accumulated, named}
use Rattle.state_head.specs.Traversal.{go}
use Rattle.step_located.specs.Located.{LocatedOffer, located_offers, replaced_as}
use Rattle.step_located.specs.CopyStep.{CopyStep, located_offers_except, copy_steps, both_replaced_as}
use Rattle.state_head.specs.Settled.{settled_at}
use Rattle.step_located.specs.Rebuilt.{replaced_at, both_replaced_at}
use Rattle.state_task.specs.declared.task.Task.{Task}
use Rattle.step_located.proofs.Laws.Located.{Part, new_part, then_part, else_part, let_part}

-- What is said of a process at a position that is settled at n under the messages ρ.
pub record Said : Type 0 where
  pub next : ℕ
  pub threads : List Thread
  pub settled : List Placed
  pub offers : (k : ℕ) → List LocatedOffer
  pub others : (x k : ℕ) → List LocatedOffer
  pub jointly : (k : ℕ) → List CopyStep
  pub put : (x : ℕ) → List Placed → (k : ℕ) → List Placed
  pub put_both : (x : ℕ) → List Placed → (y : ℕ) → List Placed → (k j : ℕ) → List Placed

unfoldable pub said : Process → (at : ℕ) → Bound → (n : ℕ) → Said
said P at ρ n = record {
  next = names P ρ n;
  threads = settle P ρ n;
  settled = settled_at P at ρ n;
  offers = λ k. located_offers P at ρ n k;
  others = λ x k. located_offers_except x P at ρ n k;
  jointly = λ k. copy_steps P at ρ n k;
  put = λ x z k. replaced_at x z P at ρ n k;
  put_both = λ x zx y zy k j. both_replaced_at x zx y zy P at ρ n k j;
}

-- It leads to another one.
pub record Leads (P : Process) (at : ℕ) (ρ : Bound) (n : ℕ) (P' : Process) (at' : ℕ) (ρ' : Bound) (n' : ℕ) : Type 0 where
  pub part : Part at P at' P'
  pub same : said P at ρ n ≡ said P' at' ρ' n'
  pub free : over_settling P ρ n ≡ false → over_settling P' ρ' n' ≡ false
  pub traverse : over_settling P ρ n ≡ false → (T : Task) (x : Message) (g : Accumulated)
      → go P T x at ρ (named n g) ≡ go P' T x at' ρ' (named n' g)

module _ (at : ℕ) (ρ : Bound) (n : ℕ) where
  new_leads : (P : Process) → Leads (Process.new P) at ρ n P (at + 1) (ρ ▸ leaf (private n)) (suc n)
  unfolding said names settle settled_at located_offers located_offers_except copy_steps replaced_as both_replaced_as over_settling go
  new_leads P = record { part = new_part at P; same = refl; free = λ f. f; traverse = λ f T x g. refl }

  let_leads : (M : Term) (P : Process) → Leads (Process.let_in M P) at ρ n P (body_at at M) (ρ ▸ worked ρ M) n
  unfolding said names settle settled_at located_offers located_offers_except copy_steps replaced_as both_replaced_as over_settling go
  let_leads M P = record {
    part = let_part at M P;
    same = refl;
    free = λ f. (neither (over ρ M) _ f).1;
    traverse = λ f T x g. rw ((neither (over ρ M) _ f).0, go);
  }

  module _ (M N : Term) (P Q : Process) where
    then_leads : equal (written ρ M) (written ρ N) ≡ true → Leads (Process.if M N P Q) at ρ n P (then_at at M N) ρ n
    unfolding said names settle settled_at located_offers located_offers_except copy_steps replaced_as both_replaced_as over_settling go
    then_leads t = record {
      part = then_part at M N P Q;
      same = rw (t, names, settle, settled_at, located_offers, located_offers_except, copy_steps, replaced_as, both_replaced_as);
      free = λ f. rw t at (neither (over ρ M || over ρ N) _ f).1;
      traverse = λ f T x g. rw ((neither (over ρ M || over ρ N) _ f).0, t, go);
    }

    else_leads : equal (written ρ M) (written ρ N) ≡ false → Leads (Process.if M N P Q) at ρ n Q (else_at at M N P) ρ n
    unfolding said names settle settled_at located_offers located_offers_except copy_steps replaced_as both_replaced_as over_settling go
    else_leads t = record {
      part = else_part at M N P Q;
      same = rw (t, names, settle, settled_at, located_offers, located_offers_except, copy_steps, replaced_as, both_replaced_as);
      free = λ f. rw t at (neither (over ρ M || over ρ N) _ f).1;
      traverse = λ f T x g. rw ((neither (over ρ M || over ρ N) _ f).0, t, go);
    }

known : (b : Bool) → (b ≡ true) ⊎ (b ≡ false)
known true = inl refl
known false = inr refl

-- Induction that passes over those three.
pub record Cases (C : Process → ℕ → Bound → ℕ → Type 0) : Type 0 where
  pub lead : {P P' : Process} {at at' : ℕ} {ρ ρ' : Bound} {n n' : ℕ} → Leads P at ρ n P' at' ρ' n' → C P' at' ρ' n' → C P at ρ n
  pub nothing : (at : ℕ) (ρ : Bound) (n : ℕ) → C Process.nil at ρ n
  pub action : (p : Prefix) (P : Process) (at : ℕ) (ρ : Bound) (n : ℕ) → C (Process.act p P) at ρ n
  pub beside : (P Q : Process) (at : ℕ) (ρ : Bound) (n : ℕ) → C P (at + 1) ρ n → C Q (right_at at P) ρ (names P ρ n)
      → C (Process.par P Q) at ρ n
  pub copied : (P : Process) (at : ℕ) (ρ : Bound) (n : ℕ) → ((m : ℕ) → C P (at + 1) ρ m) → C (Process.repl P) at ρ n

pub by_cases : {C : Process → ℕ → Bound → ℕ → Type 0} → Cases C → (P : Process) (at : ℕ) (ρ : Bound) (n : ℕ) → C P at ρ n
by_cases c Process.nil at ρ n = c.nothing at ρ n
by_cases c (Process.new P) at ρ n = c.lead (new_leads at ρ n P) (by_cases c P _ _ _)
by_cases c (Process.act p P) at ρ n = c.action p P at ρ n
by_cases c (Process.if M N P Q) at ρ n =
    elim (known (equal (written ρ M) (written ρ N))) [
      | inl t ↦ c.lead (then_leads at ρ n M N P Q t) (by_cases c P _ ρ n)
      | inr t ↦ c.lead (else_leads at ρ n M N P Q t) (by_cases c Q _ ρ n)
    ]
by_cases c (Process.let_in M P) at ρ n = c.lead (let_leads at ρ n M P) (by_cases c P _ _ n)
by_cases c (Process.par P Q) at ρ n = c.beside P Q at ρ n (by_cases c P _ ρ n) (by_cases c Q _ ρ _)
by_cases c (Process.repl P) at ρ n = c.copied P at ρ n (λ m. by_cases c P _ ρ m)
