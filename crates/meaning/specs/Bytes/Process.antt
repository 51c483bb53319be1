-- Processes ("Bytes", the process kinds).
use Rattle.meaning.specs.Messages.Term.{Term}

-- What a thread can do by itself: output M on C (kind 2), or input on C (kind 3).
pub data Prefix : Type 0 where
  output : (C M : Term) → Prefix
  input : (C : Term) → Prefix

-- `new`, `let_in` and an input prefix each add a variable for the process after them.
pub data Process : Type 0 where
  nil : Process
  new : Process → Process
  act : Prefix → Process → Process
  if : (M N : Term) → Process → Process → Process
  let_in : (M : Term) → Process → Process
  par : Process → Process → Process
  repl : Process → Process
