-- Steps with their labels, and the states that they lead to ("Steps").
use Rattle.std.specs.Prelude.{ℕ, List}
use Rattle.meaning.specs.Messages.Term.{Term, Recipe}
use Rattle.meaning.specs.Messages.Equation.{Equal}
use Rattle.meaning.specs.Bytes.Process.{Prefix, Process}
use Rattle.meaning.specs.Bytes.Formula.{Label}
use Rattle.meaning.specs.Steps.State.{Bound, ◌▸◌, written, worked, Thread, names, settle, State}
use Rattle.meaning.specs.Steps.Offer.{offer, ListOffer}
use Rattle.meaning.specs.Steps.Silent.{Meeting, meeting, ListSilent}

-- The rest is settled and put where the offer says. An output makes its message the newest alias.
abbrev pub after_output : State → Bound → Term → Process → (List Thread → List Thread) → ℕ → State
after_output S ρ M P f m =
    record { threads = f (settle P ρ m); aliases = S.aliases ▸ worked ρ M; next = names P ρ m }

abbrev pub after_input : State → Recipe → Bound → Process → (List Thread → List Thread) → ℕ → State
after_input S N ρ P f m =
    let σ = ρ ▸ worked S.aliases N in
    record { threads = f (settle P σ m); aliases = S.aliases; next = names P σ m }

-- The rest of the sender takes its names before the rest of the taker.
abbrev pub after_silent : State → Meeting → State
after_silent S (meeting ρ M P σ Q f k) =
    let τ = σ ▸ worked ρ M in
    let j = names P ρ k in
    record { threads = f (settle P ρ k) (settle Q τ j); aliases = S.aliases; next = names Q τ j }

-- A label's recipes are worked with the aliases of the state that the step leaves.
pub data Step (S : State) : Label → State → Type 0 where
  output : {ρ : Bound} {C M : Term} {P : Process} {f : List Thread → List Thread} {m : ℕ} {R : Recipe}
      → ListOffer S.next S.threads (offer ρ (Prefix.output C M) P f m) → Equal (written ρ C) (written S.aliases R)
      → Step S (Label.output R) (after_output S ρ M P f m)
  input : {ρ : Bound} {C : Term} {P : Process} {f : List Thread → List Thread} {m : ℕ} {R N : Recipe}
      → ListOffer S.next S.threads (offer ρ (Prefix.input C) P f m) → Equal (written ρ C) (written S.aliases R)
      → Step S (Label.input R N) (after_input S N ρ P f m)
  silent : {w : Meeting} → ListSilent S.next S.threads w → Step S Label.silent (after_silent S w)
