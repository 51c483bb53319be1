-- A slice has at most one refusal, and a reader whose refusals are true gives it ("Turned back for the input"): the pass over the
-- slice has one way on from each point.
use Prim.Native.Nat.{ℕ, zero, suc, pred, ◌≤◌, ◌<◌}
use mathlib.Core.Path.{◌≡◌, refl, subst}
use mathlib.Core.Bool.{and-false}
use mathlib.Core.List.{List, [], ◌∷◌, ◌++◌}
use mathlib.Core.Option.{Option, none, some}
use native.Mathlib.Omega.{arith}
use borrow.Author.Tests.{le-ltb, lt-leb}
use lib.ListN.{length, get_elem?}
use Rattle.meaning.specs.Bytes.Scope.{largest_name}
use Rattle.meaning.specs.Bytes.Kind.{term_kinds, process_kinds, formula_kinds}
use Rattle.meaning.specs.Bytes.Number.{Read, found, refused, number, first_byte_of, second_byte}
use Rattle.meaning.specs.Bytes.Refusal.{Field, term_fields, process_fields, formula_fields, Binder, StepKind}
use Rattle.meaning.specs.Bytes.Refusal.{Due, start, named, indexed, in_term, in_process, in_formula}
use Rattle.meaning.specs.Bytes.Refusal.{Refusal, EndsEarly, Malformed, Unlisted, TooDeep}
use Rattle.meaning.proofs.Bytes.Reader.{Answers}
use Rattle.meaning.proofs.Bytes.Refusal.Sound.{Ends}

-- A point of the pass: the fields that are due and their position, or a refusal.
abbrev Point : Type 0
Point = Read (List Field)

-- The way on from a point: to one point, or to the first of two where a condition holds and to the second where it does not.
data Way : Type 1 where
  only : Point → Way
  test : Type 0 → Point → Point → Way

data Choice (A : Type 0) (x y : Point) : Point → Type 0 where
  holds : A → Choice A x y x
  fails : ¬ A → Choice A x y y

abbrev Leads : Way → Point → Type 0
Leads (only x) p = p ≡ x
Leads (test A x y) p = Choice A x y p

-- A way leads to one point only.
leads_one : (w : Way) {p p' : Point} → Leads w p → Leads w p' → p ≡ p'
leads_one (only x) e e' = cc
leads_one (test A x y) (holds a) (holds a') = refl
leads_one (test A x y) (holds a) (fails f) = absurd (f a)
leads_one (test A x y) (fails f) (holds a) = absurd (f a)
leads_one (test A x y) (fails f) (fails f') = refl

-- The way on by a kind.
module _ {K : Type 0} (Allowed : K → Type 0) (fields : K → List Field) (at end : ℕ) where
  abbrev by_kind : Option K → Way
  by_kind none = only (refused 4 at)
  by_kind (some k) = test (Allowed k) (found (fields k) end) (refused 7 at)

  past_kinds : (kinds : List K) (n : ℕ) → length kinds ≤ n → Leads (by_kind (get_elem? kinds n)) (refused 4 at)
  past_kinds [] n h = refl
  past_kinds (k ∷ kinds) zero h = absurd (omega arith)
  past_kinds (k ∷ kinds) (suc n) h = past_kinds kinds n (omega arith)

  never_allowed : ((k : K) → ¬ Allowed k) → (kinds : List K) (n : ℕ) → n < length kinds
      → Leads (by_kind (get_elem? kinds n)) (refused 7 at)
  never_allowed never [] n h = absurd (omega arith)
  never_allowed never (k ∷ kinds) zero h = fails (never k)
  never_allowed never (k ∷ kinds) (suc n) h = never_allowed never kinds n (omega arith)

-- The way on by a number in a field that is due, with others after it; and by what is read there.
abbrev by_field : List Field → Field → (at n end : ℕ) → Way
by_field fs Field.name at n end = test (n ≤ largest_name) (found fs end) (refused 5 at)
by_field fs (Field.index scope) at n end = test (n < scope) (found fs end) (refused 6 at)
by_field fs (Field.term left scope) at n end =
    by_kind (λ k. 0 < left) (λ k. term_fields (pred left) scope k ++ fs) at end (get_elem? term_kinds n)
by_field fs (Field.process left scope) at n end =
    by_kind (λ k. (0 < left) × (Binder k → scope < 12)) (λ k. process_fields (pred left) scope k ++ fs) at end
    (get_elem? process_kinds n)
by_field fs (Field.formula left steps scope) at n end =
    by_kind (λ k. (0 < left) × (StepKind k → 0 < steps)) (λ k. formula_fields (pred left) steps scope k ++ fs) at end
    (get_elem? formula_kinds n)

abbrev by_read : List Field → Field → (at : ℕ) → Read ℕ → Way
by_read fs f at (found n end) = by_field fs f at n end
by_read fs f at (refused n place) = only (refused n place)

-- The pass from a point to its outcome, and from the start.
data Run (s : List ℕ) : Point → Point → Type 0 where
  refuses : {n place : ℕ} → Run s (refused n place) (refused n place)
  ends : {at : ℕ} {o : Point} → Choice (length s ≤ at) (found [] at) (refused 8 at) o → Run s (found [] at) o
  goes : {at : ℕ} {f : Field} {fs : List Field} {p o : Point} → Run s p o → Leads (by_read fs f at (number s at)) p
      → Run s (found (f ∷ fs) at) o

abbrev Pass : List ℕ → Field → Point → Type 0
Pass s root o = (p : Point) × Run s p o × Choice (length s ≤ 4096) (found (root ∷ []) 0) (refused 1 4096) p

run_one : {s : List ℕ} {p o o' : Point} → Run s p o → Run s p o' → o ≡ o'
run_one refuses refuses = refl
run_one (ends c) (ends c') = leads_one (test _ _ _) c c'
run_one {s} {o'} (goes {at} {f} {fs} r c) (goes r' c') =
    run_one r (subst (λ p. Run s p o') (leads_one (by_read fs f at (number s at)) c' c) r')

pass_one : {s : List ℕ} {root : Field} {o o' : Point} → Pass s root o → Pass s root o' → o ≡ o'
pass_one {s} {o'} (p, r, c) (p', r', c') = run_one r (subst (λ p. Run s p o') (leads_one (test _ _ _) c' c) r')

-- The pass goes on from wherever fields are due.
onward : {s : List ℕ} {root : Field} {at : ℕ} {fs : List Field} {o : Point} → Due s root at fs → Run s (found fs at) o
    → Pass s root o
onward (start h) r = (_, r, holds h)
onward (named d read h) r = onward d (goes r (rw read (holds h)))
onward (indexed d read h) r = onward d (goes r (rw read (holds h)))
onward (in_term d read is) r = onward d (goes r (rw (read, is) (holds (omega arith))))
onward (in_process d read is h) r = onward d (goes r (rw (read, is) (holds (omega arith, h))))
onward (in_formula d read is h) r = onward d (goes r (rw (read, is) (holds (omega arith, h))))

-- What each rule refuses.
early : {l : List ℕ} (size at : ℕ) → EndsEarly l → first_byte_of size at l ≡ refused 2 size
unfolding first_byte_of second_byte
early size at EndsEarly.no_byte = refl
early size at (EndsEarly.one_byte {b} h) = rw (le-ltb b 128 h, first_byte_of)

malformed : {l : List ℕ} (size at : ℕ) → Malformed l → first_byte_of size at l ≡ refused 3 at
unfolding first_byte_of second_byte
malformed size at (Malformed.second_zero {b} h) = rw (le-ltb b 128 h, first_byte_of)
malformed size at (Malformed.second_over {b} {c} h h') = rw (le-ltb b 128 h, first_byte_of, lt-leb c 127 h', second_byte, and-false)

unlisted : (fs : List Field) (f : Field) (at n end : ℕ) → Unlisted f n → Leads (by_field fs f at n end) (refused 4 at)
unlisted fs Field.name at n end u = absurd u
unlisted fs (Field.index scope) at n end u = absurd u
unlisted fs (Field.term left scope) at n end u = past_kinds _ _ at end term_kinds n u
unlisted fs (Field.process left scope) at n end u = past_kinds _ _ at end process_kinds n u
unlisted fs (Field.formula left steps scope) at n end u = past_kinds _ _ at end formula_kinds n u

too_deep : {f : Field} {n : ℕ} (fs : List Field) (at end : ℕ) → TooDeep f n → Leads (by_field fs f at n end) (refused 7 at)
too_deep fs at end (TooDeep.term-node {n} h) = never_allowed _ _ at end (λ k a. omega arith) term_kinds n h
too_deep fs at end (TooDeep.process-node {n} h) = never_allowed _ _ at end (λ k a. omega arith) process_kinds n h
too_deep fs at end (TooDeep.formula-node {n} h) = never_allowed _ _ at end (λ k a. omega arith) formula_kinds n h
too_deep fs at end (TooDeep.variable is b h) = rw is (fails (λ a. let l = a.1 b in omega arith))
too_deep fs at end (TooDeep.step is b) = rw is (fails (λ a. let l = a.1 b in omega arith))

-- A refusal is the outcome of the pass.
outcome : {s : List ℕ} {root : Field} {n place : ℕ} → Refusal s root n place → Pass s root (refused n place)
unfolding number
outcome (Refusal.slice_too_long h) = (_, refuses, fails (λ l. omega arith))
outcome {s} (Refusal.ended_early {p} d h) = onward d (goes refuses (rw (early (length s) p h)))
outcome {s} (Refusal.bad_form {p} d h) = onward d (goes refuses (rw (malformed (length s) p h)))
outcome (Refusal.unlisted_kind {p} {k} {e} {f} {fs} d read u) = onward d (goes refuses (rw read (unlisted fs f p k e u)))
outcome (Refusal.name_over d read h) = onward d (goes refuses (rw read (fails (λ l. omega arith))))
outcome (Refusal.out_of_scope d read h) = onward d (goes refuses (rw read (fails (λ l. omega arith))))
outcome (Refusal.too_deep {p} {e} {fs} d read h) = onward d (goes refuses (rw read (too_deep fs p e h)))
outcome (Refusal.left_over d h) = onward d (ends (fails (λ l. omega arith)))

pub one_refusal : {s : List ℕ} {root : Field} {n n' p p' : ℕ} → Refusal s root n p → Refusal s root n' p' → (n ≡ n') × (p ≡ p')
one_refusal t t' = let e = pass_one (outcome t) (outcome t') in (cc, cc)

-- A reader's answer is the refusal wherever there is one.
pub as-refusal : {s : List ℕ} {root : Field} {A : Type 0} {r : Read A} {n place : ℕ} → Ends s root r → Refusal s root n place
    → r ≡ refused n place
as-refusal (Answers.holds (d, h)) t = let e = pass_one (onward d (ends (holds h))) (outcome t) in cc
as-refusal (Answers.fails t') t = let e = one_refusal t' t in cc
