-- Recursion over threads along the copies of repl threads ("Steps").
use Rattle.std.specs.Prelude.{ℕ, suc, true, false, List, [], ◌∷◌, ◌++◌, map}
use Rattle.meaning.specs.Messages.Term.{leaf, private}
use Rattle.meaning.specs.Messages.Normal.{equal}
use Rattle.meaning.specs.Bytes.Process.{Prefix, Process}
use Rattle.meaning.specs.Steps.State.{Bound, ◌▸◌, written, worked, Thread, act, repl, names}

-- A result for each thread: `own` for one that acts by itself; for a repl thread `copied`, which is given the threads of its
-- settled copy, each with its result, for whatever next private name.
module _ {X : Type 0} (own : Bound → Prefix → Process → X) (copied : Bound → Process → (ℕ → List (Thread × X)) → X) where
  unfoldable pub settled : Process → Bound → ℕ → List (Thread × X)
  settled Process.nil ρ n = []
  settled (Process.new P) ρ n = settled P (ρ ▸ leaf (private n)) (suc n)
  settled (Process.act p P) ρ n = (act ρ p P, own ρ p P) ∷ []
  settled (Process.if M N P Q) ρ n = elim (equal (written ρ M) (written ρ N)) [ true ↦ settled P ρ n | false ↦ settled Q ρ n ]
  settled (Process.let_in M P) ρ n = settled P (ρ ▸ worked ρ M) n
  settled (Process.par P Q) ρ n = settled P ρ n ++ settled Q ρ (names P ρ n)
  settled (Process.repl P) ρ n = (repl ρ P, copied ρ P (settled P ρ)) ∷ []

  unfoldable pub result_of : Thread → X
  result_of (act ρ p P) = own ρ p P
  result_of (repl ρ P) = copied ρ P (settled P ρ)

-- The threads of a list, each with its result.
abbrev pub paired : {X : Type 0} → (Thread → X) → List Thread → List (Thread × X)
paired {X} f ts = map {B = Thread × X} (λ t. (t, f t)) ts
