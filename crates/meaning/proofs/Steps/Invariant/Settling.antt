-- Settling keeps messages in normal form and makes the private names that it uses: names below the next one before are below the
-- next one after ("Steps", settling).
use Prim.Native.Nat.{ℕ, suc, ◌≤◌}
use native.Mathlib.Omega.{arith}
use native.Mathlib.Nat.{le_refl}
use mathlib.Core.Logic.{inl, inr}
use mathlib.Core.List.{List}
use Rattle.meaning.specs.Messages.Term.{fst, snd, Name, public, private, name, variable, Term, Message, leaf, proj, binary}
use Rattle.meaning.specs.Messages.Equation.{◌⇝◌, projected, undone, Normal}
use Rattle.meaning.specs.Messages.Normal.{normal, equal}
use Rattle.meaning.specs.Bytes.Process.{Process}
use Rattle.meaning.specs.Places.{Every, none, ◌also◌}
use Rattle.meaning.specs.Steps.State.{Bound, ◌▸◌, written, worked, Thread, act, repl, names, settle}
use Rattle.meaning.specs.Steps.Invariant.{MessageBelow, BoundStored, ThreadStored}
use Rattle.meaning.proofs.Messages.Contraction.{contract, contract_cases}
use Rattle.meaning.proofs.Messages.{normal_forms}
use Rattle.meaning.proofs.Test.{chosen}
use Rattle.meaning.proofs.Every.{every_map, every_joined, every_get_d}

-- Names below n are below every later number.
module _ {n m : ℕ} (le : n ≤ m) where
  message_later : (x : Message) → MessageBelow n x → MessageBelow m x
  message_later (leaf (public a)) h = tt
  message_later (leaf (private k)) h = omega arith
  message_later (proj s x) h = message_later x h
  message_later (binary b x y) h = (message_later x h.0, message_later y h.1)

  pub bound_later : {ρ : Bound} → BoundStored n ρ → BoundStored m ρ
  bound_later b = every_map (λ x h. (h.0, message_later x h.1)) b

  pub thread_later : (t : Thread) → ThreadStored n t → ThreadStored m t
  thread_later (act ρ p P) b = bound_later b
  thread_later (repl ρ P) b = bound_later b

  pub threads_later : {ts : List Thread} → Every (ThreadStored n) ts → Every (ThreadStored m) ts
  threads_later b = every_map thread_later b

-- The normal form of a message has no other names.
module _ (n : ℕ) where
  equation_below : {x y : Message} → x ⇝ y → MessageBelow n x → MessageBelow n y
  equation_below (projected fst x y) h = h.0
  equation_below (projected snd x y) h = h.1
  equation_below (undone d x k) h = h.0.0

  contract_below : (x : Message) → MessageBelow n x → MessageBelow n (contract x)
  contract_below x h = elim (contract_cases x) [ inl e ↦ equation_below e h | inr p ↦ rw p h ]

  normal_below : (x : Message) → MessageBelow n x → MessageBelow n (normal x)
  unfolding normal
  normal_below (leaf a) h = h
  normal_below (proj s x) h = contract_below (proj s (normal x)) (normal_below x h)
  normal_below (binary b x y) h = contract_below (binary b (normal x) (normal y)) (normal_below x h.0, normal_below y h.1)

module _ {n : ℕ} {ρ : Bound} (b : BoundStored n ρ) where
  written_below : (t : Term) → MessageBelow n (written ρ t)
  written_below (leaf (name a)) = tt
  written_below (leaf (variable k)) = every_get_d (every_map (λ x h. h.1) b) tt k
  written_below (proj s t) = written_below t
  written_below (binary c t u) = (written_below t, written_below u)

  pub worked_below : (t : Term) {σ : Bound} → BoundStored n σ → BoundStored n (σ ▸ worked ρ t)
  worked_below t c = every_joined c (((normal_forms (written ρ t)).0, normal_below n (written ρ t) (written_below t)) also none)

-- No equation applies to a name.
name_normal : {a : Name} → Normal (leaf a)
name_normal n e = elim e [ ]

pub settled_below : (P : Process) {ρ : Bound} {n : ℕ} → BoundStored n ρ
    → (n ≤ names P ρ n) × Every (ThreadStored (names P ρ n)) (settle P ρ n)
unfolding names settle
settled_below Process.nil {n = n} b = (le_refl n, none)
settled_below (Process.new P) {ρ} {n} b =
    let later : n ≤ suc n = omega arith in
    let s = settled_below P {ρ = ρ ▸ leaf (private n)} (every_joined (bound_later later b) ((name_normal, le_refl (suc n)) also none)) in
    (omega arith, s.1)
settled_below (Process.act p P) {n = n} b = (le_refl n, b also none)
settled_below (Process.if M N P Q) {ρ} {n} b =
    chosen (λ m ts. (n ≤ m) × Every (ThreadStored m) ts) (equal (written ρ M) (written ρ N))
    (settled_below P b) (settled_below Q b)
settled_below (Process.let_in M P) b = settled_below P (worked_below b M b)
settled_below (Process.par P Q) b =
    let s = settled_below P b in
    let r = settled_below Q (bound_later s.0 b) in
    (omega arith, every_joined (threads_later r.0 s.1) r.1)
settled_below (Process.repl P) {n = n} b = (le_refl n, b also none)
