-- A process all of whose offers of a kind come before the position that a quest begins at has none that is wanted ("Steps").
use mathlib.Core.Path.{◌≡◌, refl}
use mathlib.Core.Bool.{Bool, true, false, not, ◌&&◌}
use Prim.Native.Nat.{ℕ, suc, ◌+◌, ◌≤◌}
use native.Mathlib.Omega.{arith}
use lib.Dec.{ltb}
use borrow.Author.Tests.{lt-ltb}
use Rattle.meaning.specs.Messages.Term.{leaf, private, Message}
use Rattle.meaning.specs.Messages.Normal.{equal}
use Rattle.meaning.specs.Bytes.Process.{Prefix, output, input, Process, nil, new, act, if, let_in, par, repl}
use Rattle.meaning.specs.Places.{Every, none, ◌also◌}
use Rattle.meaning.specs.Steps.State.{Bound, ◌▸◌, written, worked, names}
use Rattle.meaning.proofs.Every.{every_joined}
use Rattle.index_entry.specs.Entry.{last_of}
use Rattle.state_record.specs.Place.{then_at, else_at, body_at, right_at}
use Rattle.state_task.specs.declared.task.Quest.{Quest}
use Rattle.step_located.specs.Located.{LocatedOffer, located_offers}
use Rattle.step_located.specs.Sought.{wanted}

-- An offer that is not of the kind, or comes before the position.
too_early : (is c : Bool) (at from : ℕ) → elim is [ true ↦ at + 1 | false ↦ 0 ] ≤ from → (is && not (ltb at from) && c) ≡ false
too_early true c at from h = rw (lt-ltb at from (omega arith))
too_early false c at from h = refl

not_of_kind : (is : Bool) (at : ℕ) {from : ℕ} → elim is [ true ↦ 0 | false ↦ at + 1 ] ≤ from → elim (not is) [ true ↦ at + 1 | false ↦ 0 ] ≤ from
not_of_kind true at h = h
not_of_kind false at h = h

-- What holds of two things holds of the one that a test chooses.
pub either_one : {A : Type 0} (R : A → Type 0) (b : Bool) {u v : A} → R u → R v → R (elim b [ true ↦ u | false ↦ v ])
either_one R true r s = r
either_one R false r s = s

module _ (q : Quest) (x : Message) where
  abbrev Unwanted : LocatedOffer → Type 0
  Unwanted a = wanted q x a ≡ false

  own_unwanted : (p : Prefix) (P : Process) (at : ℕ) (ρ : Bound) (k : ℕ) → last_of q.output at (act p P) ≤ q.from
      → Unwanted (record { place = at; bound = ρ; prefix = p; rest = P; next = k })
  unfolding last_of wanted
  own_unwanted (output C M) P at ρ k h = too_early q.output _ at q.from h
  own_unwanted (input C) P at ρ k h = too_early (not q.output) _ at q.from (not_of_kind q.output at h)

  pub none_wanted : (P : Process) (at : ℕ) (ρ : Bound) (n k : ℕ) → last_of q.output at P ≤ q.from → Every Unwanted (located_offers P at ρ n k)
  unfolding located_offers last_of
  none_wanted nil at ρ n k h = none
  none_wanted (new P) at ρ n k h = none_wanted P (at + 1) (ρ ▸ leaf (private n)) (suc n) k h
  none_wanted (act p P) at ρ n k h = own_unwanted p P at ρ k h also none
  none_wanted (if M N P Q) at ρ n k h =
      either_one (Every Unwanted) (equal (written ρ M) (written ρ N)) (none_wanted P (then_at at M N) ρ n k (omega arith))
      (none_wanted Q (else_at at M N P) ρ n k (omega arith))
  none_wanted (let_in M P) at ρ n k h = none_wanted P (body_at at M) (ρ ▸ worked ρ M) n k h
  none_wanted (par P Q) at ρ n k h =
      every_joined (none_wanted P (at + 1) ρ n k (omega arith)) (none_wanted Q (right_at at P) ρ (names P ρ n) k (omega arith))
  none_wanted (repl P) at ρ n k h = none_wanted P (at + 1) ρ k (names P ρ k) h
