-- Silent steps ("Steps"): the rules, a constructor for each sentence.
use Rattle.std.specs.Prelude.{ℕ, List, [], ◌∷◌, ◌++◌}
use Rattle.meaning.specs.Messages.Term.{Term}
use Rattle.meaning.specs.Messages.Equation.{Equal}
use Rattle.meaning.specs.Bytes.Process.{output, input, Process}
use Rattle.meaning.specs.Steps.State.{Bound, written, Thread, repl, names, settle}
use Rattle.meaning.specs.Steps.Offer.{Offer, offer, opened, Split, ThreadOffer, ListOffer}

-- An output of M before P and an input before Q that meet; where the settled rests of the two go; the next private name.
pub data Meeting : Type 0 where
  meeting : (ρ : Bound) (M : Term) (P : Process) (σ : Bound) (Q : Process)
      (place : List Thread → List Thread → List Thread) (next : ℕ) → Meeting

-- The meeting with its place put into a larger one.
abbrev pub framed : (List Thread → List Thread) → Meeting → Meeting
framed g (meeting ρ M P σ Q f k) = meeting ρ M P σ Q (λ x y. g (f x y)) k

-- The first offer sends, the second takes, and their channels are equal; `arrange` puts their places into one list.
pub data Joins (arrange : List Thread → List Thread → List Thread) : Offer → Offer → Meeting → Type 0 where
  join : {ρ σ : Bound} {C M D : Term} {P Q : Process} {f g : List Thread → List Thread} {m k : ℕ}
      → Equal (written ρ C) (written σ D)
      → Joins arrange (offer ρ (output C M) P f m) (offer σ (input D) Q g k) (meeting ρ M P σ Q (λ x y. arrange (f x) (g y)) k)

mutual
  pub data ThreadSilent : ℕ → Thread → Meeting → Type 0 where
    -- Within one copy of a repl thread.
    within : {n : ℕ} {ρ : Bound} {P : Process} {w : Meeting} → ListSilent (names P ρ n) (settle P ρ n) w
        → ThreadSilent n (repl ρ P) (framed (λ x. x ++ (repl ρ P ∷ [])) w)
    -- Between two copies: the sender's is opened before the taker's.
    copies : {n : ℕ} {ρ : Bound} {P : Process} {o i : Offer} {w : Meeting}
        → ListOffer (names P ρ n) (settle P ρ n) o → ListOffer (names P ρ (opened o)) (settle P ρ (opened o)) i
        → Joins (λ a b. a ++ b ++ (repl ρ P ∷ [])) o i w → ThreadSilent n (repl ρ P) w

  pub data ListSilent : ℕ → List Thread → Meeting → Type 0 where
    -- By one thread of the list, which is then a repl thread.
    among : {n : ℕ} {ts l r : List Thread} {t : Thread} {w : Meeting} → Split ts l t r → ThreadSilent n t w
        → ListSilent n ts (framed (λ x. l ++ x ++ r) w)
    -- Between two threads of the list, the taker left or right of the sender.
    with_left : {n : ℕ} {ts l r : List Thread} {t : Thread} {o i : Offer} {w : Meeting}
        → Split ts l t r → ThreadOffer n t o → ListOffer (opened o) l i → Joins (λ a b. b ++ a ++ r) o i w → ListSilent n ts w
    with_right : {n : ℕ} {ts l r : List Thread} {t : Thread} {o i : Offer} {w : Meeting}
        → Split ts l t r → ThreadOffer n t o → ListOffer (opened o) r i → Joins (λ a b. l ++ a ++ b) o i w → ListSilent n ts w
