-- The entries of the table of worked examples, and what it is that one holds.
use Rattle.std.specs.Prelude.{◌≡◌, true, false, List, map, ℕ, length}
use Rattle.meaning.specs.Messages.Term.{Message}
use Rattle.meaning.specs.Messages.Normal
use Rattle.meaning.specs.Bytes.Process.{Process}
use Rattle.meaning.specs.Bytes.Formula.{Label}
use Rattle.meaning.specs.Bytes.Number.{found, number}
use Rattle.meaning.specs.Steps.State.{State, start}
use Rattle.meaning.specs.Steps.Enumeration.{steps}
use Rattle.meaning.specs.Verdict.{verdict}

pub data Entry : Type 0 where
  -- On these slices, with a work buffer of this length and this budget, the verdict is these four numbers.
  answered : (first second formula : List ℕ) (work budget : ℕ) (result slice place count : ℕ) → Entry
  -- The bytes begin with this number, and the next one begins at `end`.
  numbered : List ℕ → (value end : ℕ) → Entry
  -- Two messages are equal, or are not.
  equal different : Message → Message → Entry
  -- The first steps of a model with this label, in order, lead to states of so many threads.
  reaching : Process → Label → (threads : List ℕ) → Entry
  -- They lead to these states.
  leading : Process → Label → List State → Entry

abbrev pub Holds : Entry → Type 0
Holds (answered first second formula work budget result slice place count) =
    verdict first second formula work budget ≡ record { result = result; slice = slice; place = place; count = count }
Holds (numbered s value end) = number s 0 ≡ found value end
Holds (equal m n) = Normal.equal m n ≡ true
Holds (different m n) = Normal.equal m n ≡ false
Holds (reaching P a threads) = map (λ T. length T.threads) (steps (start P) a) ≡ threads
Holds (leading P a states) = steps (start P) a ≡ states
