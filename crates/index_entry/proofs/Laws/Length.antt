-- How long a process is, from its parts ("Bytes").
use mathlib.Core.Path.{◌≡◌}
use mathlib.Core.List.{[], ◌∷◌, ◌++◌}
use Prim.Native.Nat.{ℕ, ◌+◌, ◌≤◌}
use native.Mathlib.Omega.{arith}
use lib.ListN.{length, length-append}
use Rattle.meaning.specs.Messages.Term.{Term}
use Rattle.meaning.specs.Bytes.Process.{output, input, Process, nil, new, act, if, let_in, par, repl}
use Rattle.meaning.specs.Bytes.Encoding.{encode_term, encode_process}
use Rattle.decode_layout.specs.Ends.{row}
use Rattle.decode_layout.proofs.Laws.Ends.{processes}

-- A process takes a byte at least.
pub bytes : (P : Process) → 1 ≤ length (encode_process P)
bytes P = rw (processes P).shape (omega arith)

-- The terms of a node, one or two.
pub one_term : (at : ℕ) (M : Term) → at + length (row encode_term (M ∷ [])) ≡ at + length (encode_term M)
one_term at M = omega (arith, length-append (encode_term M) [])

pub two_terms : (at : ℕ) (M N : Term) → at + length (row encode_term (M ∷ N ∷ [])) ≡ at + length (encode_term M) + length (encode_term N)
two_terms at M N = omega (arith, length-append (encode_term M) (encode_term N ++ []), length-append (encode_term N) [])

-- How long a process is, from its parts.
pub nil_long : length (encode_process nil) ≡ 1
unfolding encode_process
nil_long = omega arith

module _ (C M : Term) (P : Process) where
  pub output_long : length (encode_process (act (output C M) P)) ≡ 1 + length (encode_term C) + length (encode_term M) + length (encode_process P)
  unfolding encode_process
  output_long =
      omega (arith, length-append (encode_term C ++ encode_term M) (encode_process P), length-append (encode_term C) (encode_term M))

module _ (C : Term) (P : Process) where
  pub input_long : length (encode_process (act (input C) P)) ≡ 1 + length (encode_term C) + length (encode_process P)
  unfolding encode_process
  input_long = omega (arith, length-append (encode_term C) (encode_process P))

  pub let_long : length (encode_process (let_in C P)) ≡ 1 + length (encode_term C) + length (encode_process P)
  unfolding encode_process
  let_long = omega (arith, length-append (encode_term C) (encode_process P))

pub if_long : (M N : Term) (P Q : Process) → length (encode_process (if M N P Q))
    ≡ 1 + length (encode_term M) + length (encode_term N) + length (encode_process P) + length (encode_process Q)
unfolding encode_process
if_long M N P Q =
    omega (
      arith,
      length-append (encode_term M ++ encode_term N ++ encode_process P) (encode_process Q),
      length-append (encode_term M ++ encode_term N) (encode_process P),
      length-append (encode_term M) (encode_term N),
    )

module _ (P Q : Process) where
  pub par_long : length (encode_process (par P Q)) ≡ 1 + length (encode_process P) + length (encode_process Q)
  unfolding encode_process
  par_long = omega (arith, length-append (encode_process P) (encode_process Q))

module _ (P : Process) where
  pub new_long : length (encode_process (new P)) ≡ 1 + length (encode_process P)
  unfolding encode_process
  new_long = omega arith

  pub repl_long : length (encode_process (repl P)) ≡ 1 + length (encode_process P)
  unfolding encode_process
  repl_long = omega arith
