-- Formulas of classical FM and the labels of steps ("Bytes", the formula kinds).
use Rattle.meaning.specs.Messages.Term.{Recipe}

-- A label as written: its channel and its message are recipes.
pub data Label : Type 0 where
  output : (C : Recipe) → Label
  input : (C M : Recipe) → Label
  silent : Label

pub data Formula : Type 0 where
  equal : (M N : Recipe) → Formula
  not : Formula → Formula
  and : Formula → Formula → Formula
  step : Label → Formula → Formula
