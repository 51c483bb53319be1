-- The limits of states and recipes ("Judging and its count"). Nothing but judging knows them: no
-- definition of steps, truth or bisimulation uses this file.
use Rattle.std.specs.Prelude.{ℕ, suc, ◌+◌, Bool, true, false, ◌||◌, List, [], ◌∷◌, ltb, length}
use Rattle.meaning.specs.Messages.Term.{Term, leaf, proj, binary, private, nodes}
use Rattle.meaning.specs.Messages.Normal.{size, equal}
use Rattle.meaning.specs.Bytes.Process.{Prefix, output, input, Process}
use Rattle.meaning.specs.Bytes.Formula.{Label, Formula}
use Rattle.meaning.specs.Steps.State.{Bound, ◌▸◌, written, worked, Thread, act, repl, names, State}
use Rattle.meaning.specs.Steps.Copies.{result_of}
use Rattle.meaning.specs.Logic.Truth.{any_of}

-- Working a term: whether it or a part of it has a normal form of more than 255 nodes.
abbrev pub over_whole : Bound → Term → Bool
over_whole ρ t = ltb 255 (size (written ρ t))

unfoldable pub over : Bound → Term → Bool
over ρ (leaf l) = over_whole ρ (leaf l)
over ρ (proj s t) = over ρ t || over_whole ρ (proj s t)
over ρ (binary b t u) = over ρ t || over ρ u || over_whole ρ (binary b t u)

-- Settling a process: an `if` works the two terms that it compares and then one branch.
unfoldable pub over_settling : Process → Bound → ℕ → Bool
over_settling Process.nil ρ n = false
over_settling (Process.new P) ρ n = over_settling P (ρ ▸ leaf (private n)) (suc n)
over_settling (Process.act p P) ρ n = false
over_settling (Process.if M N P Q) ρ n =
    over ρ M || over ρ N
    || (elim (equal (written ρ M) (written ρ N)) [ true ↦ over_settling P ρ n | false ↦ over_settling Q ρ n ])
over_settling (Process.let_in M P) ρ n = over ρ M || over_settling P (ρ ▸ worked ρ M) n
over_settling (Process.par P Q) ρ n = over_settling P ρ n || over_settling Q ρ (names P ρ n)
over_settling (Process.repl P) ρ n = false

-- Channel and message of a thread's own offer.
abbrev pub over_prefix : Bound → Prefix → Process → ℕ → Bool
over_prefix ρ (output C M) P n = over ρ C || over ρ M
over_prefix ρ (input C) P n = over ρ C

-- Opening a copy, and the offers of all its threads, copies' offers included.
abbrev pub over_copy : Bound → Process → (ℕ → List (Thread × (ℕ → Bool))) → ℕ → Bool
over_copy ρ P copy n = over_settling P ρ n || any_of (λ t. t.1 (names P ρ n)) (copy n)

unfoldable pub over_offers : Thread → ℕ → Bool
over_offers t = result_of over_prefix over_copy t

-- The nodes of bound messages.
unfoldable pub bound_nodes : Bound → ℕ
bound_nodes [] = 0
bound_nodes (m ∷ ρ) = nodes m + bound_nodes ρ

unfoldable pub thread_nodes : List Thread → ℕ
thread_nodes [] = 0
thread_nodes (act ρ p P ∷ ts) = bound_nodes ρ + thread_nodes ts
thread_nodes (repl ρ P ∷ ts) = bound_nodes ρ + thread_nodes ts

-- A state over a limit, but for what arose while it was settled.
unfoldable pub over_state : State → Bool
over_state S =
    ltb 32 (length S.threads) || ltb 128 S.next || ltb 1024 (thread_nodes S.threads + bound_nodes S.aliases)
    || any_of (λ t. over_offers t S.next) S.threads

-- The recipes of a formula node, worked at a state.
abbrev pub over_label : Bound → Label → Bool
over_label ρ (Label.output C) = over ρ C
over_label ρ (Label.input C M) = over ρ C || over ρ M
over_label ρ Label.silent = false

unfoldable pub over_recipes : Bound → Formula → Bool
over_recipes ρ (Formula.equal M N) = over ρ M || over ρ N
over_recipes ρ (Formula.not F) = false
over_recipes ρ (Formula.and F G) = false
over_recipes ρ (Formula.step a F) = over_label ρ a
