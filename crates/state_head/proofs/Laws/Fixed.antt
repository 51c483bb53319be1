-- The private names of a process that no message decides ("Steps"; "Judging and its count").
use Rattle.std.specs.Prelude.{Option, Some, None}
use mathlib.Core.Path.{◌≡◌, refl, sym, ◌∙◌}
use mathlib.Core.Bool.{false}
use mathlib.Core.List.{List}
use Prim.Native.Nat.{ℕ, zero, suc, ◌+◌}
use native.Mathlib.Omega.{arith}
use Rattle.meaning.specs.Messages.Term.{leaf, private}
use Rattle.meaning.specs.Bytes.Process.{Process, nil, new, act, if, let_in, par, repl}
use Rattle.meaning.specs.Steps.State.{Bound, ◌▸◌, names}
use Rattle.meaning.specs.Judging.Limits.{over_settling}
use Rattle.index_entry.specs.Entry.{together, fixed_names, short}
use Rattle.index_process.specs.Index.{one_less, Fixes}
use Rattle.index_entry.proofs.Laws.Entry.{not_open}
use Rattle.state_record.proofs.Laws.Process.{in_model}
use Rattle.state_head.specs.Count.{Fixed, Counts}

-- Names together that are not open: neither are those of the two.
record Both (a b c : ℕ) : Type 0 where
  first : ℕ
  second : ℕ
  left : a ≡ suc first
  right : b ≡ suc second
  sum : first + second ≡ c

both : (a b : ℕ) {c : ℕ} → together a b ≡ suc c → Both a b c
both zero b e = absurd (omega arith)
both (suc a) zero e = absurd (omega arith)
both (suc a) (suc b) e = record { first = a; second = b; left = refl; right = refl; sum = omega arith }

-- Settling then meets no limit, and takes so many.
record Takes (P : Process) (ρ : Bound) (n c : ℕ) : Type 0 where
  fine : over_settling P ρ n ≡ false
  next : names P ρ n ≡ n + c

takes : (P : Process) (ρ : Bound) (n : ℕ) {c : ℕ} → fixed_names P ≡ suc c → Takes P ρ n c
unfolding over_settling names fixed_names
takes nil ρ n e = record { fine = refl; next = omega arith }
takes (new P) ρ n e =
    let t = both 2 (fixed_names P) e in
    let p = takes P (ρ ▸ leaf (private n)) (suc n) t.right in
    record { fine = p.fine; next = omega (arith, p.next, t.left, t.sum) }
takes (act p P) ρ n e = record { fine = refl; next = omega arith }
takes (if M N P Q) ρ n e = absurd (omega arith)
takes (let_in M P) ρ n e = absurd (omega arith)
takes (par P Q) ρ n e =
    let t = both (fixed_names P) (fixed_names Q) e in
    let p = takes P ρ n t.left in
    let q = takes Q ρ (names P ρ n) t.right in
    record { fine = rw p.fine q.fine; next = omega (arith, p.next, q.next, t.sum) }
takes (repl P) ρ n e = record { fine = refl; next = omega arith }

-- A number is one thing, none another.
some_or_none : {n : ℕ} → Some n ≡ None → ⊥
some_or_none e = let z : ◌≡◌ {A = ℕ} 0 1 = cc in omega arith

-- What the index has is all of them.
all_names : (n : ℕ) {own : ℕ} → Some own ≡ one_less (short n) → n ≡ suc own
all_names n e = not_open n (sym (of (short n) e)) (λ z. omega arith)
  where
    of : (k : ℕ) {own : ℕ} → Some own ≡ one_less k → k ≡ suc own
    of zero e = absurd (some_or_none e)
    of (suc k) e = cc

-- So the names are counted at once.
module _ {s : List ℕ} {at n : ℕ} where
  pub open_names : Fixed s at n None
  open_names = record { exact = λ e. absurd (some_or_none (sym e)) }

  pub fixed-names : {f : Option ℕ} {own : ℕ} → Fixes s at f → f ≡ Some own → Fixed s at n (Some (n + own))
  fixed-names {f} {own} x is = record {
    exact = λ e P ρ p.
        let t = takes P ρ n (all_names (fixed_names P) (sym is ∙ x.same P p)) in
        rw (t.fine, t.next) (sym e);
  }

  pub fixed_counted : {left end next : ℕ} {m : List ℕ} {r : Option ℕ} → Fixed s at n r → r ≡ Some next → Counts s at left m end n (Some next)
  fixed_counted x e = record { exact = λ P ρ y. x.exact e P ρ (in_model y.process) }

pub ruleset fixed_ones = (open_names, fixed-names, fixed_counted)
