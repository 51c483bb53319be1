-- What a thread offers by itself, worked for its limits ("Judging and its count").
use Rattle.std.specs.Prelude.{Option, Some, None}
use mathlib.Core.Path.{◌≡◌}
use mathlib.Core.Bool.{Bool, true, false, ◌||◌}
use mathlib.Core.List.{List}
use Prim.Native.Nat.{ℕ, ◌+◌}
use native.Mathlib.Omega.{arith}
use lib.ListN.{length, get_or}
use Rattle.meaning.specs.Messages.Term.{Term}
use Rattle.meaning.specs.Bytes.Process.{Prefix, output, input, Process}
use Rattle.meaning.specs.Steps.State.{Bound}
use Rattle.meaning.specs.Judging.Limits.{over}
use Rattle.buffer.specs.Buffer.{Within}
use Rattle.decode_layout.specs.Ends.{TermEnd}
use Rattle.message_term.specs.Bound.{BoundTo}
use Rattle.message_term.specs.Work.{TermAt, Works}
use Rattle.message_term.specs.declared.work.Worked.{Worked}
use Rattle.message_term.proofs.Laws.Work.{said_over, said_small}
use Rattle.state_record.specs.Place.{ProcessAt, body_at}
use Rattle.state_progress.specs.TraversalResult.{Accumulated, going, unless}
use Rattle.state_task.specs.Machine.{offered}
use Rattle.state_progress.specs.Represented.{Represents, RepresentsResult}
use Rattle.state_progress.specs.Progress.{Stopped}
use Rattle.state_task.specs.Thread.{Judges, Offers}
use Rattle.state_progress.specs.declared.progress.Progress.{Progress}
use Rattle.state_record.proofs.Laws.Process.{process_kind, of_output, of_input}
use Rattle.state_task.proofs.Laws.Bound.{bound_at, bound_still}

-- A term is too large, or not.
module _ {s m m₁ : List ℕ} {at end : ℕ} {now : Progress} {w : Option Worked} (f : Works s at 8 m 0 end w m₁) where
  pub large_term : {r : Progress} → w ≡ None → Stopped now r → Judges s at m end now r
  large_term e o = record {
    stopped = λ _. o.over;
    exact = λ t ρ g out p b d. rw (said_over _ _ _ (f.exact t ρ p (bound_at b)).answer e) o.over;
  }

  pub small_term : {x : Worked} → w ≡ Some x → Judges s at m end now now
  small_term e = record {
    stopped = λ z. z;
    exact = λ t ρ g out p b d. rw (said_small _ _ _ (f.exact t ρ p (bound_at b)).answer e).0 d;
  }

pub ruleset judges = (large_term, small_term)

-- The channel, and the message of an output.
module _ {s m : List ℕ} {at end : ℕ} {now first : Progress} (f : Judges s (at + 1) m end now first) where
  pub offers_input : get_or s at 0 ≡ 3 → Offers s at m end now first
  unfolding offered
  offers_input z = record { exact = λ p. only p }
    where
      only : (p : Prefix) (P : Process) (ρ : Bound) (g : Accumulated) {left next : ℕ} (out : List ℕ)
          → ProcessAt s at left (length ρ) (Process.act p P) next → BoundTo m 0 ρ end → Represents s out now g
          → RepresentsResult s out first (offered ρ p P g)
      only (output C M) P ρ g out q b d = absurd (omega (arith, (process_kind (Process.act (output C M) P) q).0))
      only (input C) P ρ g out q b d = f.exact C ρ g out (of_input C P q) b d

  pub offers_output : (get_or s at 0 ≡ 3 → ⊥) → {m₁ : List ℕ} {high i : ℕ} → Within end high m m₁ → TermEnd s (at + 1) i → {r : Progress}
      → Judges s i m₁ end first r → Offers s at m end now r
  unfolding offered
  offers_output z {m₁} {high} {i} v l {r} h = record { exact = λ p. only p }
    where
      after : (C M : Term) (ρ : Bound) (g : Accumulated) (out : List ℕ) {next : ℕ} → TermAt s i 8 (length ρ) M next → BoundTo m₁ 0 ρ end
          → (a : Bool) → RepresentsResult s out first (unless a (going g)) → RepresentsResult s out r (unless (a || over ρ M) (going g))
      after C M ρ g out p b true o = h.stopped o
      after C M ρ g out p b false d = h.exact M ρ g out p b d

      only : (p : Prefix) (P : Process) (ρ : Bound) (g : Accumulated) {left next : ℕ} (out : List ℕ)
          → ProcessAt s at left (length ρ) (Process.act p P) next → BoundTo m 0 ρ end → Represents s out now g
          → RepresentsResult s out r (offered ρ p P g)
      only (output C M) P ρ g out q b d =
          let (c, n) = of_output C M P q in
          let here : i ≡ body_at at C = l.same C c.stands in
          after C M ρ g out (rw (← here) at n) (bound_still b v) (over ρ C) (f.exact C ρ g out c b d)
      only (input C) P ρ g out q b d = absurd (z (process_kind (Process.act (input C) P) q).0)

pub ruleset offers = (offers_input, offers_output)
