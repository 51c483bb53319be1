-- The entries of a formula stay where no call reaches them ("Bytes", the formula kinds).
use mathlib.Core.List.{List, ◌++◌}
use Prim.Native.Nat.{ℕ, ◌+◌, ◌≤◌, ◌<◌}
use native.Mathlib.Omega.{arith}
use lib.ListN.{length, length-append}
use Rattle.meaning.specs.Bytes.Formula.{Label, Formula, equal, not, and, step}
use Rattle.meaning.specs.Bytes.Encoding.{encode_term, encode_formula}
use Rattle.decode_layout.proofs.Laws.Ends.{formulas}
use Rattle.index_formula.specs.declared.index.Entry.{Entry}
use Rattle.index_formula.specs.Index.{entry_of, EntryOf, Noted, Indexed}

-- A formula takes a byte at least.
pub bytes : (F : Formula) → 1 ≤ length (encode_formula F)
bytes F = rw (formulas F).shape (omega arith)

-- Entries from one position to another are left as they were.
pub record Leaves (f g : List ℕ) (from to : ℕ) : Type 0 where
  pub entry : (q : ℕ) (e : Entry) → from ≤ q → q < to → EntryOf f q e → EntryOf g q e

pub inside : {f g : List ℕ} {from to from₁ to₁ : ℕ} → Leaves f g from to → from ≤ from₁ → to₁ ≤ to → Leaves f g from₁ to₁
inside k l h = record { entry = λ q e l₁ h₁. k.entry q e (omega arith) (omega arith) }

-- So a formula stays in the index.
module _ {f g : List ℕ} where
  own_kept : (F : Formula) {at : ℕ} → Leaves f g at (at + length (encode_formula F)) → Noted f at F → Noted g at F
  own_kept F {at} k i = k.entry at (entry_of at F) (omega arith) (omega (arith, bytes F)) i

  pub indexed_kept : (F : Formula) {at : ℕ} → Leaves f g at (at + length (encode_formula F)) → Indexed f at F → Indexed g at F
  unfolding encode_formula
  indexed_kept (equal M N) k i = own_kept (equal M N) k i
  indexed_kept (not F) k i = (own_kept (not F) k i.0, indexed_kept F (inside k (omega arith) (omega arith)) i.1)
  indexed_kept (and F G) k i =
      let long = length-append (encode_formula F) (encode_formula G) in (
        own_kept (and F G) k i.0,
        indexed_kept F (inside k (omega arith) (omega (arith, long))) i.1,
        indexed_kept G (inside k (omega arith) (omega (arith, long))) i.2,
      )
  indexed_kept (step (Label.output C) F) k i =
      let long = length-append (encode_term C) (encode_formula F) in
      (own_kept (step (Label.output C) F) k i.0, indexed_kept F (inside k (omega arith) (omega (arith, long))) i.1)
  indexed_kept (step (Label.input C M) F) k i =
      let long = length-append (encode_term C ++ encode_term M) (encode_formula F) in
      let terms = length-append (encode_term C) (encode_term M) in
      (own_kept (step (Label.input C M) F) k i.0, indexed_kept F (inside k (omega arith) (omega (arith, long, terms))) i.1)
  indexed_kept (step Label.silent F) k i =
      (own_kept (step Label.silent F) k i.0, indexed_kept F (inside k (omega arith) (omega arith)) i.1)
