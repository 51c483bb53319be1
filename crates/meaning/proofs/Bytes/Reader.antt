-- The laws of readers ("Turned back for the input"): how a property of what is found and one of what is refused go through the
-- steps of a reader, and what its tests come to.
use mathlib.Core.Path.{◌≡◌, refl}
use mathlib.Core.Bool.{Bool, true, false, not}
use Prim.Native.Nat.{ℕ, ◌≤◌, ◌<◌}
use native.Mathlib.Omega.{arith}
use lib.Dec.{T, ltb, ltb→lt, nltb→le}
use Rattle.meaning.specs.Bytes.Number.{Read, found, refused, and_then, provided}

-- What is found, with its end, has P; the number and place of a refusal have R.
pub data Answers {A : Type 0} (P : A → ℕ → Type 0) (R : ℕ → ℕ → Type 0) : Read A → Type 0 where
  holds : {a : A} {end : ℕ} → P a end → Answers P R (found a end)
  fails : {number place : ℕ} → R number place → Answers P R (refused number place)

-- Of refusals nothing is said.
abbrev pub Only : {A : Type 0} → (A → ℕ → Type 0) → Read A → Type 0
Only P r = Answers P (λ number place. Unit {0}) r

module _ {A : Type 0} {P : A → ℕ → Type 0} {R : ℕ → ℕ → Type 0} where
  pub and-then : {B : Type 0} {Q : B → ℕ → Type 0} {r : Read A} {f : A → ℕ → Read B} → Answers P R r
      → ((a : A) (end : ℕ) → P a end → Answers Q R (f a end)) → Answers Q R (and_then r f)
  unfolding and_then
  and-then (holds {a} {end} p) h = h a end p
  and-then (fails t) h = fails t

  pub by_provided : (test : Bool) (number place : ℕ) (a : A) (end : ℕ) → (T test → P a end)
      → (T (not test) → R number place) → Answers P R (provided test number place a end)
  by_provided true number place a end p t = holds (p tt)
  by_provided false number place a end p t = fails (t tt)

  -- What is found is the answer.
  pub as_found : {r : Read A} → Answers P R r → Answers (λ a end. r ≡ found a end) R r
  as_found (holds p) = holds refl
  as_found (fails t) = fails t

  -- Where the answer is known.
  is_found : {a : A} {end : ℕ} → Answers P R (found a end) → P a end
  is_found (holds p) = p

  is_refused : {number place : ℕ} → Answers P R (refused number place) → R number place
  is_refused (fails t) = t

  pub of_found : {r : Read A} {a : A} {end : ℕ} → Answers P R r → r ≡ found a end → P a end
  of_found h e = is_found (rw e at h)

  pub of_refused : {r : Read A} {number place : ℕ} → Answers P R r → r ≡ refused number place → R number place
  of_refused h e = is_refused (rw e at h)

pub provided_found : {A : Type 0} (test : Bool) (number place : ℕ) (a : A) (end : ℕ)
    → T test → provided test number place a end ≡ found a end
provided_found true number place a end t = refl
provided_found false number place a end t = absurd t

-- A choice by a test has a property if each side has it where it is taken.
pub by_test : {A : Type 0} (P : A → Type 0) (test : Bool) {x y : A}
    → (T test → P x) → (T (not test) → P y) → P (elim test [ true ↦ x | false ↦ y ])
by_test P true p q = p tt
by_test P false p q = q tt

-- The choice by a known order.
pub below : {A : Type 0} (m n : ℕ) (x y : A) → m < n → elim (ltb m n) [ true ↦ x | false ↦ y ] ≡ x
below m n x y h = by_test (λ z. z ≡ x) (ltb m n) (λ t. refl) (λ t. absurd (omega (arith, nltb→le)))

pub above : {A : Type 0} (m n : ℕ) (x y : A) → n ≤ m → elim (ltb m n) [ true ↦ x | false ↦ y ] ≡ y
above m n x y h = by_test (λ z. z ≡ y) (ltb m n) (λ t. absurd (omega (arith, ltb→lt))) (λ t. refl)
