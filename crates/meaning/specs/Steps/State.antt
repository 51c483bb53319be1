-- Threads, states, settling and the start state ("Steps").
use Rattle.std.specs.Prelude.{ℕ, suc, true, false, List, [], ◌∷◌, ◌++◌, get_or}
use Rattle.meaning.specs.Messages.Term.{Leaf, name, variable, Term, Message, leaf, public, private, substitute}
use Rattle.meaning.specs.Messages.Normal.{normal, equal}
use Rattle.meaning.specs.Bytes.Process.{Prefix, Process}

infixl 65 ◌▸◌
-- Bound messages, those of the variables in scope from 0 on; the next one comes last.
abbrev pub Bound : Type 0
Bound = List Message

abbrev pub ◌▸◌ : Bound → Message → Bound
ρ ▸ m = ρ ++ (m ∷ [])

-- What a leaf stands for. Outside the scope, which no well-formed input reaches, it is public name 0.
abbrev pub meaning_of : Bound → Leaf → Message
meaning_of ρ (name n) = leaf (public n)
meaning_of ρ (variable k) = get_or ρ k (leaf (public 0))

-- The message of a term, as written and in normal form.
abbrev pub written : Bound → Term → Message
written ρ t = substitute (meaning_of ρ) t

abbrev pub worked : Bound → Term → Message
worked ρ t = normal (written ρ t)

-- What is left when a process is settled.
pub data Thread : Type 0 where
  act : Bound → Prefix → Process → Thread
  repl : Bound → Process → Thread

-- The next private name after settling, n being the next one before.
unfoldable pub names : Process → Bound → ℕ → ℕ
names Process.nil ρ n = n
names (Process.new P) ρ n = names P (ρ ▸ leaf (private n)) (suc n)
names (Process.act p P) ρ n = n
names (Process.if M N P Q) ρ n = elim (equal (written ρ M) (written ρ N)) [ true ↦ names P ρ n | false ↦ names Q ρ n ]
names (Process.let_in M P) ρ n = names P (ρ ▸ worked ρ M) n
names (Process.par P Q) ρ n = names Q ρ (names P ρ n)
names (Process.repl P) ρ n = n

-- Settling goes left to right.
unfoldable pub settle : Process → Bound → ℕ → List Thread
settle Process.nil ρ n = []
settle (Process.new P) ρ n = settle P (ρ ▸ leaf (private n)) (suc n)
settle (Process.act p P) ρ n = Thread.act ρ p P ∷ []
settle (Process.if M N P Q) ρ n = elim (equal (written ρ M) (written ρ N)) [ true ↦ settle P ρ n | false ↦ settle Q ρ n ]
settle (Process.let_in M P) ρ n = settle P (ρ ▸ worked ρ M) n
settle (Process.par P Q) ρ n = settle P ρ n ++ settle Q ρ (names P ρ n)
settle (Process.repl P) ρ n = Thread.repl ρ P ∷ []

-- Threads, the messages of the aliases, and the next private name, which is also how many have been made.
pub record State : Type 0 where
  pub threads : List Thread
  pub aliases : Bound
  pub next : ℕ

unfoldable pub start : Process → State
start P = record { threads = settle P [] 0; aliases = []; next = names P [] 0 }
