-- A process that stands in the bytes of a model, within what is left of the limits ("Bytes").
use Rattle.std.specs.Prelude.{List, ℕ, ◌+◌, ◌≤◌, length}
use Rattle.meaning.specs.Messages.Term.{Term}
use Rattle.meaning.specs.Bytes.Process.{Prefix, output, input, Process}
use Rattle.meaning.specs.Bytes.Encoding.{encode_term, encode_process}
use Rattle.meaning.specs.Bytes.Nesting.{process_terms, process_depth, variables}
use Rattle.meaning.specs.Bytes.Scope.{ProcessScoped}
use Rattle.meaning.specs.Bytes.Standing.{Stands}
use Rattle.index_process.specs.Index.{Indexed}

-- A process stands in s from at to next, among the bytes of the model and with its ends in the index, with every variable in scope, at most
-- left nodes on a path, and at most 12 variables.
pub record ProcessAt (s : List ℕ) (at left scope : ℕ) (P : Process) (next : ℕ) : Type 0 where
  pub stands : Stands s at (encode_process P) next
  pub deep : process_depth P ≤ left
  pub terms : process_terms P ≤ 8
  pub scoped : ProcessScoped scope P
  pub few : scope + variables P ≤ 12
  pub indexed : Indexed s at P
  pub inside : next ≤ 4096

-- Where the processes of an `if`, a `let` and a `par` stand that stands at a position.
abbrev pub then_at : ℕ → (M N : Term) → ℕ
then_at at M N = at + 1 + length (encode_term M) + length (encode_term N)

abbrev pub else_at : ℕ → (M N : Term) → Process → ℕ
else_at at M N P = then_at at M N + length (encode_process P)

abbrev pub body_at : ℕ → Term → ℕ
body_at at M = at + 1 + length (encode_term M)

abbrev pub right_at : ℕ → Process → ℕ
right_at at P = at + 1 + length (encode_process P)

-- Where the process stands that follows an output or an input.
abbrev pub rest_at : ℕ → Prefix → ℕ
rest_at at (output C M) = then_at at C M
rest_at at (input C) = body_at at C
