-- Terms are refused truly, 5 and 6 among the refusals ("Turned back for the input").
use Prim.Native.Nat.{ℕ, zero, suc}
use mathlib.Core.List.{List, ◌++◌}
use lib.Dec.{leb, ltb, leb→le, ltb→lt, nleb→lt, nltb→le}
use Rattle.meaning.specs.Bytes.Scope.{largest_name}
use Rattle.meaning.specs.Bytes.Kind.{TermKind, term_kinds}
use Rattle.meaning.specs.Bytes.Number.{Read}
use Rattle.meaning.specs.Messages.Term.{Term}
use Rattle.meaning.specs.Bytes.Reading as Reader
use Rattle.meaning.specs.Bytes.Refusal.{Field, Due, named, indexed, in_term, name_over, out_of_scope, term-node, term_fields}
use Rattle.meaning.proofs.Bytes.Reader.{holds, and-then, by_provided}
use Rattle.meaning.proofs.Bytes.Refusal.Sound.{Leaves, Reads, through}
use Rattle.meaning.proofs.Bytes.Refusal.Number.{number_sound}
use Rattle.meaning.proofs.Bytes.Refusal.Kind.{kind_sound, never_sound}

module _ {s : List ℕ} {root : Field} where
  -- The fields of a kind, with any reader of its parts.
  fields_sound : (left scope : ℕ) (part : ℕ → Read Term) → Reads s root (Field.term left scope) part
      → (k : TermKind) (at : ℕ) (fs : List Field) → Due s root at (term_fields left scope k ++ fs)
      → Leaves s root fs (Reader.term_fields part scope s k at)
  unfolding Reader.term_fields
  fields_sound left scope part h TermKind.name at fs d =
      and-then (number_sound d) (λ n end read.
      by_provided (leb n largest_name) _ _ _ _ (λ t. named d read (leb→le n largest_name t)) (λ t. name_over d read (nleb→lt n largest_name t)))
  fields_sound left scope part h TermKind.variable at fs d =
      and-then (number_sound d) (λ k end read.
      by_provided (ltb k scope) _ _ _ _ (λ t. indexed d read (ltb→lt k scope t)) (λ t. out_of_scope d read (nltb→le k scope t)))
  fields_sound left scope part h (TermKind.proj side) at fs d = through h d (λ t end d. holds d)
  fields_sound left scope part h (TermKind.binary b) at fs d =
      through h d (λ t mid d. through h d (λ u end d. holds d))

  pub term_sound : (left scope : ℕ) → Reads s root (Field.term left scope) (Reader.term left scope s)
  unfolding Reader.term
  term_sound zero scope at fs d = never_sound d term_kinds (λ n h. h) (λ n h. term-node h)
  term_sound (suc left) scope at fs d =
      and-then (kind_sound d term_kinds (λ n h. h) Reader.always (λ n k is t. absurd t)) (λ k end (n, read, is, t).
      fields_sound left scope (Reader.term left scope s) (term_sound left scope) k end fs (in_term d read is))
