-- What threads offer ("Steps"): the rules on offers, a constructor for each sentence.
use Rattle.std.specs.Prelude.{ℕ, List, [], ◌∷◌, ◌++◌}
use Rattle.meaning.specs.Bytes.Process.{Prefix, Process}
use Rattle.meaning.specs.Steps.State.{Bound, Thread, act, repl, names, settle}

-- The thread that acts; where the settled rest of it goes; the next private name, all copies on the way being opened.
pub data Offer : Type 0 where
  offer : Bound → Prefix → Process → (place : List Thread → List Thread) → (next : ℕ) → Offer

abbrev pub opened : Offer → ℕ
opened (offer ρ p P f n) = n

-- The offer with its place put into a larger one.
abbrev pub placed : (List Thread → List Thread) → Offer → Offer
placed g (offer ρ p P f n) = offer ρ p P (λ x. g (f x)) n

-- t stands in the list between l and r.
pub data Split {A : Type 0} : List A → List A → A → List A → Type 0 where
  here : {t : A} {r : List A} → Split (t ∷ r) [] t r
  there : {u t : A} {ts l r : List A} → Split ts l t r → Split (u ∷ ts) (u ∷ l) t r

mutual
  -- A thread that acts offers itself, and the rest takes its place. A repl thread opens a copy and passes on the offers of its
  -- list; whatever is left of the copy comes in front of the repl thread, which is not used up.
  pub data ThreadOffer : ℕ → Thread → Offer → Type 0 where
    own : {n : ℕ} {ρ : Bound} {p : Prefix} {P : Process} → ThreadOffer n (act ρ p P) (offer ρ p P (λ x. x) n)
    copy : {n : ℕ} {ρ : Bound} {P : Process} {o : Offer} → ListOffer (names P ρ n) (settle P ρ n) o
        → ThreadOffer n (repl ρ P) (placed (λ x. x ++ (repl ρ P ∷ [])) o)

  -- A list passes on the offers of each of its threads.
  pub data ListOffer : ℕ → List Thread → Offer → Type 0 where
    among : {n : ℕ} {ts l r : List Thread} {t : Thread} {o : Offer} → Split ts l t r → ThreadOffer n t o
        → ListOffer n ts (placed (λ x. l ++ x ++ r) o)
