-- What holds of every state that is reached ("Steps", "Messages"): its messages are in normal form, and their private names are
-- those that were made.
use Rattle.std.specs.Prelude.{ℕ, ◌<◌}
use Rattle.meaning.specs.Messages.Term.{Name, public, private, Message, leaf, proj, binary}
use Rattle.meaning.specs.Messages.Equation.{Normal}
use Rattle.meaning.specs.Places.{Every}
use Rattle.meaning.specs.Steps.State.{Bound, Thread, act, repl, State}

-- Every private name is below n.
abbrev pub NameBelow : ℕ → Name → Type 0
NameBelow n (public a) = Unit {0}
NameBelow n (private k) = k < n

abbrev pub MessageBelow : ℕ → Message → Type 0
MessageBelow n (leaf a) = NameBelow n a
MessageBelow n (proj s m) = MessageBelow n m
MessageBelow n (binary b m k) = MessageBelow n m × MessageBelow n k

-- Messages as they are stored, n being the next private name.
abbrev pub Stored : ℕ → Message → Type 0
Stored n m = Normal m × MessageBelow n m

abbrev pub BoundStored : ℕ → Bound → Type 0
BoundStored n ρ = Every (Stored n) ρ

abbrev pub ThreadStored : ℕ → Thread → Type 0
ThreadStored n (act ρ p P) = BoundStored n ρ
ThreadStored n (repl ρ P) = BoundStored n ρ

pub record Invariant (S : State) : Type 0 where
  pub in_threads : Every (ThreadStored S.next) S.threads
  pub in_aliases : BoundStored S.next S.aliases
