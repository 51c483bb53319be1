-- The entries of a process stay where no call reaches them ("Bytes").
use mathlib.Core.List.{List}
use Prim.Native.Nat.{ℕ, ◌+◌, ◌≤◌, ◌<◌}
use native.Mathlib.Omega.{arith}
use lib.ListN.{length}
use Rattle.meaning.specs.Bytes.Process.{output, input, Process, nil, new, act, if, let_in, par, repl}
use Rattle.meaning.specs.Bytes.Encoding.{encode_process}
use Rattle.index_entry.specs.declared.entry.Entry.{Entry}
use Rattle.index_entry.specs.Entry.{entry_of}
use Rattle.index_process.specs.Index.{EntryOf, Noted, Indexed}
use Rattle.index_entry.proofs.Laws.Length.{
  bytes,
  new_long,
  output_long,
  input_long,
  if_long,
  let_long,
  par_long,
  repl_long,
}

-- Entries from one position to another are left as they were.
pub record Leaves (s t : List ℕ) (from to : ℕ) : Type 0 where
  pub entry : (q : ℕ) (e : Entry) → from ≤ q → q < to → EntryOf s q e → EntryOf t q e

pub inside : {s t : List ℕ} {from to from₁ to₁ : ℕ} → Leaves s t from to → from ≤ from₁ → to₁ ≤ to → Leaves s t from₁ to₁
inside k l h = record { entry = λ q e l₁ h₁. k.entry q e (omega arith) (omega arith) }

-- So a process stays in the index.
module _ {s t : List ℕ} where
  own_kept : (P : Process) {at : ℕ} → Leaves s t at (at + length (encode_process P)) → Noted s at P → Noted t at P
  own_kept P {at} k i = k.entry at (entry_of at P) (omega arith) (omega (arith, bytes P)) i

  pub indexed_kept : (P : Process) {at : ℕ} → Leaves s t at (at + length (encode_process P)) → Indexed s at P → Indexed t at P
  indexed_kept nil k i = own_kept nil k i
  indexed_kept (new P) k i =
      (own_kept (new P) k i.0, indexed_kept P (inside k (omega arith) (omega (arith, new_long P))) i.1)
  indexed_kept (act (output C M) P) k i =
      (own_kept (act (output C M) P) k i.0, indexed_kept P (inside k (omega arith) (omega (arith, output_long C M P))) i.1)
  indexed_kept (act (input C) P) k i =
      (own_kept (act (input C) P) k i.0, indexed_kept P (inside k (omega arith) (omega (arith, input_long C P))) i.1)
  indexed_kept (if M N P Q) k i = (
    own_kept (if M N P Q) k i.0,
    indexed_kept P (inside k (omega arith) (omega (arith, if_long M N P Q))) i.1,
    indexed_kept Q (inside k (omega arith) (omega (arith, if_long M N P Q))) i.2,
  )
  indexed_kept (let_in M P) k i =
      (own_kept (let_in M P) k i.0, indexed_kept P (inside k (omega arith) (omega (arith, let_long M P))) i.1)
  indexed_kept (par P Q) k i = (
    own_kept (par P Q) k i.0,
    indexed_kept P (inside k (omega arith) (omega (arith, par_long P Q))) i.1,
    indexed_kept Q (inside k (omega arith) (omega (arith, par_long P Q))) i.2,
  )
  indexed_kept (repl P) k i =
      (own_kept (repl P) k i.0, indexed_kept P (inside k (omega arith) (omega (arith, repl_long P))) i.1)
