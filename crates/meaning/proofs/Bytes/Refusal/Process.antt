-- Processes are refused truly, a thirteenth variable among the refusals ("Turned back for the input").
use Prim.Native.Nat.{ℕ, zero, suc, ◌<◌}
use mathlib.Core.Path.{◌≡◌}
use mathlib.Core.Bool.{not}
use mathlib.Core.List.{List, ◌++◌}
use mathlib.Core.Option.{some}
use lib.Dec.{T, ltb→lt, nltb→le}
use lib.ListN.{get_elem?}
use Rattle.meaning.specs.Bytes.Kind.{ProcessKind, process_kinds}
use Rattle.meaning.specs.Bytes.Number.{Read}
use Rattle.meaning.specs.Bytes.Process.{Process}
use Rattle.meaning.specs.Bytes.Reading as Reader
use Rattle.meaning.specs.Bytes.Refusal.{Field, Due, in_process, Binder, TooDeep, process-node, process_fields}
use Rattle.meaning.proofs.Bytes.Reader.{holds, and-then}
use Rattle.meaning.proofs.Bytes.Refusal.Sound.{Leaves, Reads, through}
use Rattle.meaning.proofs.Bytes.Refusal.Kind.{kind_sound, never_sound}
use Rattle.meaning.proofs.Bytes.Refusal.Term.{term_sound}

-- A binder that may stand has room for its variable, and what may not stand is a binder with no room.
room : (scope : ℕ) {k : ProcessKind} → T (Reader.room_for scope k) → Binder k → scope < 12
room scope t Binder.new = ltb→lt scope 12 t
room scope t Binder.input = ltb→lt scope 12 t
room scope t Binder.let_in = ltb→lt scope 12 t

no_room : {left scope n : ℕ} (k : ProcessKind) → get_elem? process_kinds n ≡ some k → T (not (Reader.room_for scope k))
    → TooDeep (Field.process (suc left) scope) n
no_room ProcessKind.nil is t = absurd t
no_room {scope} ProcessKind.new is t = TooDeep.variable is Binder.new (nltb→le scope 12 t)
no_room ProcessKind.output is t = absurd t
no_room {scope} ProcessKind.input is t = TooDeep.variable is Binder.input (nltb→le scope 12 t)
no_room ProcessKind.if is t = absurd t
no_room {scope} ProcessKind.let_in is t = TooDeep.variable is Binder.let_in (nltb→le scope 12 t)
no_room ProcessKind.par is t = absurd t
no_room ProcessKind.repl is t = absurd t

module _ {s : List ℕ} {root : Field} where
  -- The fields of a kind, with any reader of its parts.
  fields_sound : (left scope : ℕ) (part : ℕ → ℕ → Read Process)
      → ((scope : ℕ) → Reads s root (Field.process left scope) (part scope))
      → (k : ProcessKind) (at : ℕ) (fs : List Field) → Due s root at (process_fields left scope k ++ fs)
      → Leaves s root fs (Reader.process_fields part scope s k at)
  unfolding Reader.process_fields
  fields_sound left scope part h ProcessKind.nil at fs d = holds d
  fields_sound left scope part h ProcessKind.new at fs d = through (h (suc scope)) d (λ P end d. holds d)
  fields_sound left scope part h ProcessKind.output at fs d =
      through (term_sound 8 scope) d (λ C e₁ d. through (term_sound 8 scope) d (λ M e₂ d.
      through (h scope) d (λ P end d. holds d)))
  fields_sound left scope part h ProcessKind.input at fs d =
      through (term_sound 8 scope) d (λ C e₁ d. through (h (suc scope)) d (λ P end d. holds d))
  fields_sound left scope part h ProcessKind.if at fs d =
      through (term_sound 8 scope) d (λ M e₁ d. through (term_sound 8 scope) d (λ N e₂ d.
      through (h scope) d (λ P e₃ d. through (h scope) d (λ Q end d. holds d))))
  fields_sound left scope part h ProcessKind.let_in at fs d =
      through (term_sound 8 scope) d (λ M e₁ d. through (h (suc scope)) d (λ P end d. holds d))
  fields_sound left scope part h ProcessKind.par at fs d =
      through (h scope) d (λ P e₁ d. through (h scope) d (λ Q end d. holds d))
  fields_sound left scope part h ProcessKind.repl at fs d = through (h scope) d (λ P end d. holds d)

  pub process-sound : (left scope : ℕ) → Reads s root (Field.process left scope) (Reader.process left scope s)
  unfolding Reader.process
  process-sound zero scope at fs d = never_sound d process_kinds (λ n h. h) (λ n h. process-node h)
  process-sound (suc left) scope at fs d =
      and-then (kind_sound d process_kinds (λ n h. h) (Reader.room_for scope) (λ n k is t. no_room k is t))
      (λ k end (n, read, is, t). fields_sound left scope (λ n e. Reader.process left n s e) (process-sound left)
      k end fs (in_process d read is (room scope t)))
