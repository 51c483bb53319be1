-- The private names that a process takes, by its head and the sides of a par ("Steps"; "Judging and its count").
use Rattle.std.specs.Prelude.{Option, Some, None}
use mathlib.Core.Path.{◌≡◌, refl, sym, ap, ◌∙◌}
use mathlib.Core.Bool.{Bool, true, false, true≢false}
use mathlib.Core.List.{List, []}
use mathlib.Core.Logic.{inl, inr}
use Prim.Native.Nat.{ℕ, ◌+◌, ◌-◌}
use native.Mathlib.Omega.{arith}
use lib.ListN.{get_or}
use Rattle.meaning.specs.Messages.Term.{leaf, public}
use Rattle.meaning.specs.Bytes.Process.{Process, nil, new, act, if, let_in, par, repl}
use Rattle.meaning.specs.Steps.State.{Bound, names}
use Rattle.meaning.specs.Judging.Limits.{over_settling}
use Rattle.buffer.specs.Buffer.{Within}
use Rattle.index_process.specs.Index.{Ends}
use Rattle.state_record.specs.Place.{right_at}
use Rattle.state_progress.specs.TraversalResult.{Accumulated, going, unless, named}
use Rattle.state_record.proofs.Laws.Process.{in_model, kind_of, shaped, process_kind, of_par}
use Rattle.state_task.proofs.Laws.Bound.{bound_still}
use Rattle.state_head.specs.Traversal.{go}
use Rattle.state_head.specs.Head.{CanSettle, MeetsLimit, SameTraversal, Descends, Settled}
use Rattle.state_head.specs.Count.{counted_of, count_of, Counts, CountsIf}
use Rattle.state_head.specs.declared.head.Head.{Head}
use Rattle.state_task.specs.declared.task.Task.TheVariants.{Count}
use Rattle.state_head.proofs.Laws.TraversalResult.{names-fit}
use Rattle.state_head.proofs.Laws.Counting.{counted}

-- Traversals that are the same take the same names.
none : Accumulated
none = record { names = 0; nodes = 0; threads = [] }

same_answer : (a b : Bool) (n k : ℕ) → unless a (going (named n none)) ≡ unless b (going (named k none)) → counted_of a n ≡ counted_of b k
same_answer true true n k e = refl
same_answer true false n k e = let f : true ≡ false = cc in absurd (true≢false f)
same_answer false true n k e = let f : true ≡ false = cc in absurd (true≢false f)
same_answer false false n k e = let f : named n none ≡ named k none = cc in ap Some (ap (λ (g : Accumulated). g.names) f)

traversed : (P : Process) (at : ℕ) (ρ : Bound) (n : ℕ)
    → go P Count (leaf (public 0)) at ρ (named n none) ≡ unless (over_settling P ρ n) (going (named (names P ρ n) none))
traversed P at ρ n = counted P (leaf (public 0)) at ρ (named n none)

same_count : {P : Process} {at : ℕ} {ρ : Bound} {n : ℕ} {Q : Process} {to : ℕ} {σ : Bound} {k : ℕ} → SameTraversal P at ρ n Q to σ k
    → count_of P ρ n ≡ count_of Q σ k
same_count {P} {at} {ρ} {n} {Q} {to} {σ} {k} w =
    same_answer (over_settling P ρ n) (over_settling Q σ k) (names P ρ n) (names Q σ k)
    (sym (traversed P at ρ n) ∙ w.same Count (leaf (public 0)) none ∙ traversed Q to σ k)

over_count : {P : Process} {at : ℕ} {ρ : Bound} {n : ℕ} → MeetsLimit P at ρ n → count_of P ρ n ≡ None
over_count {P} {at} {ρ} {n} o =
    same_answer (over_settling P ρ n) true (names P ρ n) 0 (sym (traversed P at ρ n) ∙ o.over Count (leaf (public 0)) none)

-- What an answer says.
answer_over : (b : Bool) (i : ℕ) → None ≡ counted_of b i → b ≡ true
answer_over true i e = refl
answer_over false i e = let f : true ≡ false = cc in absurd (true≢false f)

answer_names : {next : ℕ} (b : Bool) (i : ℕ) → Some next ≡ counted_of b i → (b ≡ false) × (next ≡ i)
answer_names true i e = let f : true ≡ false = cc in absurd (true≢false f)
answer_names false i e = (refl, cc)

module _ (P : Process) (ρ : Bound) (n : ℕ) {a : Option ℕ} (c : a ≡ count_of P ρ n) where
  pub counted_over : a ≡ None → over_settling P ρ n ≡ true
  counted_over is = answer_over (over_settling P ρ n) (names P ρ n) (sym is ∙ c)

  pub counted_names : {next : ℕ} → a ≡ Some next → (over_settling P ρ n ≡ false) × (next ≡ names P ρ n)
  counted_names is = answer_names (over_settling P ρ n) (names P ρ n) (sym is ∙ c)

-- A process is counted by its head.
module _ {s m m₁ : List ℕ} {at left end n : ℕ} {c : Option Head} (d : Descends s at left m end n c m₁) where
  by_head : {h : Head} {r : Option ℕ} → c ≡ Some h
      → ((P : Process) (ρ : Bound) → CanSettle s h.at h.left m₁ h.end h.names P ρ → r ≡ count_of P ρ h.names)
      → Counts s at left m end n r
  by_head {h} is f = record {
    exact = λ P ρ y. let a = d.head h is P ρ y in f a.process a.bound a.settles ∙ sym (same_count a.traverses);
  }

  pub head_over : c ≡ None → Counts s at left m end n None
  head_over none = record { exact = λ P ρ y. sym (over_count (d.over none P ρ y)) }

  module _ {h : Head} {kind : ℕ} (is : c ≡ Some h) (k : kind ≡ get_or s h.at 0) where
    pub head_par : {r : Option ℕ} → kind ≡ 6 → CountsIf 6 s h.at h.left m₁ h.end h.names r → Counts s at left m end n r
    head_par e f = by_head is (f.exact (sym k ∙ e)).exact

    pub head_none : (kind ≡ 6 → ⊥) → Settled s h → Counts s at left m end n (Some h.names)
    unfolding over_settling names
    head_none f z = by_head is (λ P ρ y. only P ρ (process_kind P y.process).0)
      where
        only : (P : Process) (ρ : Bound) → get_or s h.at 0 ≡ kind_of P → Some h.names ≡ count_of P ρ h.names
        only nil ρ e = refl
        only (new P) ρ e = absurd (z.other (inl e))
        only (act p P) ρ e = refl
        only (if M N P Q) ρ e = absurd (z.other (inr (inl e)))
        only (let_in M P) ρ e = absurd (z.other (inr (inr e)))
        only (par P Q) ρ e = absurd (f (k ∙ e))
        only (repl P) ρ e = refl

pub ruleset heads_counted = (head_over, head_par, head_none)

-- Par: the second side is counted after the names of the first.
module _ {s m : List ℕ} {at left end n : ℕ} {a : Option ℕ} (c : Counts s (at + 1) (left - 1) m end n a) where
  first_answer : (P Q : Process) (ρ : Bound) → CanSettle s at left m end n (par P Q) ρ → a ≡ count_of P ρ n
  first_answer P Q ρ y =
      let (p, q) = of_par P Q y.process in
      c.exact P ρ (record {
        next = right_at at P;
        process = p;
        bound = y.bound;
        room = omega (arith, y.room);
        fits = omega (arith, y.fits);
      })

  pub first_over : a ≡ None → CountsIf 6 s at left m end n None
  unfolding over_settling
  first_over is = record {
    exact = λ e. record {
      exact = λ P ρ y.
          let (Q, R, f) = shaped 6 P y.process e in
          let large = counted_over Q ρ n (first_answer Q R ρ (rw f at y)) is in
          rw (f, large) refl;
    };
  }

  pub both_counted : {m₁ : List ℕ} {next mid high : ℕ} {r : Option ℕ} → a ≡ Some next → Counts s mid (left - 1) m₁ end next r
      → Ends s (at + 1) mid → Within end high m m₁ → CountsIf 6 s at left m end n r
  unfolding over_settling names
  both_counted {m₁} {next} {mid} {high} {r} is w l k = record {
    exact = λ e. record { exact = λ P ρ y. let (Q, R, f) = shaped 6 P y.process e in rw f (one Q R ρ (rw f at y)) };
  }
    where
      one : (P Q : Process) (ρ : Bound) → CanSettle s at left m end n (par P Q) ρ → r ≡ count_of (par P Q) ρ n
      one P Q ρ y =
          let (p, q) = of_par P Q y.process in
          let here : mid ≡ right_at at P = l.same P (in_model p) in
          let (fine, later) = counted_names P ρ n (first_answer P Q ρ y) is in
          rw (fine, ← later) (w.exact Q ρ (record {
            next = y.next;
            process = rw (← here) at q;
            bound = bound_still y.bound k;
            room = omega (arith, y.room, k.long);
            fits = omega (arith, y.fits, names-fit P ρ n);
          }))

pub ruleset pars_counted = (first_over, both_counted)
