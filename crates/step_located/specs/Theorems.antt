-- The theorems on positions of offers ("Steps"). Their proofs are in proofs/Laws/Located.antt and CopyStep.antt, under the same names in
-- snake case.
use Rattle.std.specs.Prelude.{ℕ, ◌≡◌, [], ◌∷◌, ◌++◌, map}
use Rattle.meaning.specs.Bytes.Process.{Process}
use Rattle.meaning.specs.Steps.State.{Bound, repl, settle}
use Rattle.meaning.specs.Steps.Offer.{offer}
use Rattle.meaning.specs.Steps.Enumeration.{offers, silents}
use Rattle.step_located.specs.Located.{located_offers, replaced}
use Rattle.step_located.specs.CopyStep.{copy_steps, left, pairs, both_replaced, met}

-- The offers of the definitions are those with positions, in the same order, and what a step leaves is found by the position alone.
abbrev pub OffersLocated : Type 0
OffersLocated =
    (P : Process) (at : ℕ) (ρ : Bound) (n k : ℕ) → offers k (settle P ρ n)
    ≡ map (λ a. offer a.bound a.prefix a.rest (λ z. replaced a.place z P at ρ n k) a.next) (located_offers P at ρ n k)

-- And so are the silent steps: first those of the repl threads, then the pairs of threads.
abbrev pub SilentsLocated : Type 0
SilentsLocated =
    (P : Process) (at : ℕ) (ρ : Bound) (n k : ℕ) → silents k (settle P ρ n)
    ≡ map (λ w. met w.pair (λ x y. replaced w.place (left w x y ++ (repl w.bound w.copied ∷ [])) P at ρ n k)) (copy_steps P at ρ n k)
    ++ map (λ w. met w (λ x y. both_replaced w.sender.place x w.taker.place y P at ρ n k w.sender.next)) (pairs P at ρ n k)
