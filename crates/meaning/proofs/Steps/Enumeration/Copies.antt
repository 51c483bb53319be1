-- Recursion and induction over threads along the copies of repl threads ("Steps"), for whatever is computed along copies: here offers and silent steps, elsewhere the limits.
use Prim.Native.Nat.{ℕ}
use mathlib.Core.Path.{◌≡◌, refl, sym, ◌∙◌, ap, ap₂, fun_ext}
use mathlib.Core.Bool.{true, false}
use mathlib.Core.List.{List, ◌++◌, map-append}
use Rattle.meaning.specs.Messages.Normal.{equal}
use Rattle.meaning.specs.Bytes.Process.{Prefix, Process}
use Rattle.meaning.specs.Steps.State.{Bound, written, Thread, act, repl, names, settle}
use Rattle.meaning.specs.Steps.Copies.{settled, result_of, paired}
use Rattle.meaning.specs.Steps.Enumeration.{Cut, cut}
use Rattle.meaning.specs.Places.{Every, none, ◌also◌}
use Rattle.meaning.proofs.Every.{every_joined, every_split}
use Rattle.meaning.proofs.Steps.Enumeration.Cuts.{chosen, SplitAt}

module _ {X : Type 0} (own : Bound → Prefix → Process → X) (copied : Bound → Process → (ℕ → List (Thread × X)) → X) where
  -- The recursor gives the settled threads, each with its result.
  pub settled_paired : (P : Process) (ρ : Bound) (n : ℕ)
      → settled own copied P ρ n ≡ paired (result_of own copied) (settle P ρ n)
  unfolding settled result_of settle
  settled_paired Process.nil ρ n = refl
  settled_paired (Process.new P) ρ n = settled_paired P _ _
  settled_paired (Process.act p P) ρ n = refl
  settled_paired (Process.if M N P Q) ρ n =
      elim (equal (written ρ M) (written ρ N)) as (λ b.
      elim b [ true ↦ settled own copied P ρ n | false ↦ settled own copied Q ρ n ]
      ≡ paired (result_of own copied) (elim b [ true ↦ settle P ρ n | false ↦ settle Q ρ n ]))
      [ true ↦ settled_paired P ρ n | false ↦ settled_paired Q ρ n ]
  settled_paired (Process.let_in M P) ρ n = settled_paired P _ n
  settled_paired (Process.par P Q) ρ n =
      ap₂ ◌++◌ (settled_paired P ρ n) (settled_paired Q ρ (names P ρ n)) ∙ sym (map-append _ (settle P ρ n) _)
  settled_paired (Process.repl P) ρ n = refl

  -- So the result of a repl thread is computed from the results of the threads of its settled copy.
  pub result_repl : (ρ : Bound) (P : Process)
      → result_of own copied (repl ρ P) ≡ copied ρ P (λ n. paired (result_of own copied) (settle P ρ n))
  unfolding result_of
  result_repl ρ P = ap (copied ρ P) (fun_ext (settled_paired P ρ))

-- Induction over threads and lists of threads: a list from its threads, a repl thread from its settled copy, whatever the next
-- private name.
module _ {ℓ} (Q : Thread → Type ℓ) (Qs : List Thread → Type ℓ)
    (lists : (ts : List Thread) → ((c : Cut Thread) → SplitAt ts c → Q (chosen c)) → Qs ts)
    (acts : (ρ : Bound) (p : Prefix) (P : Process) → Q (act ρ p P))
    (repls : (ρ : Bound) (P : Process) → ((n : ℕ) → Qs (settle P ρ n)) → Q (repl ρ P)) where
  -- A list from a property of all its threads.
  from_every : {ts : List Thread} → Every Q ts → Qs ts
  from_every e = lists _ (elim [ cut l t r ↦ λ s. (every_split s e).1 ])

  all_settled : (P : Process) (ρ : Bound) (n : ℕ) → Every Q (settle P ρ n)
  unfolding settle
  all_settled Process.nil ρ n = none
  all_settled (Process.new P) ρ n = all_settled P _ _
  all_settled (Process.act p P) ρ n = acts ρ p P also none
  all_settled (Process.if M N P R) ρ n =
      elim (equal (written ρ M) (written ρ N)) as (λ b. Every Q (elim b [ true ↦ settle P ρ n | false ↦ settle R ρ n ]))
      [ true ↦ all_settled P ρ n | false ↦ all_settled R ρ n ]
  all_settled (Process.let_in M P) ρ n = all_settled P _ n
  all_settled (Process.par P R) ρ n = every_joined (all_settled P ρ n) (all_settled R ρ (names P ρ n))
  all_settled (Process.repl P) ρ n = repls ρ P (λ m. from_every (all_settled P ρ m)) also none

  pub every_thread : (t : Thread) → Q t
  every_thread (act ρ p P) = acts ρ p P
  every_thread (repl ρ P) = repls ρ P (λ n. from_every (all_settled P ρ n))

  pub every_list : (ts : List Thread) → Qs ts
  every_list ts = lists ts (λ c _. every_thread (chosen c))
