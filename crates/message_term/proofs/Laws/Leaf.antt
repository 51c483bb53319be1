-- The message of a public name or a variable, written where it is asked for ("Messages").
use Rattle.std.specs.Prelude.{Option, Some, None}
use mathlib.Core.Path.{◌≡◌, refl, sym, ap, ◌∙◌}
use mathlib.Core.Bool.{true, false, true≢false}
use mathlib.Core.List.{List}
use Prim.Native.Nat.{ℕ, ◌+◌, ◌-◌, ◌*◌, ◌/◌, ◌%◌, ◌≤◌, ◌<◌}
use native.Mathlib.Omega.{arith}
use borrow.Author.Tests.{lt-ltb, le-ltb}
use lib.ListN.{length, get_or, take, drop, set, length-take}
use lib.Seq.{paste}
use Rattle.meaning.specs.Messages.Term.{Term, leaf, variable, public, nodes}
use Rattle.meaning.specs.Messages.Normal.{normal, size}
use Rattle.meaning.specs.Bytes.Standing.{Stands}
use Rattle.meaning.specs.Steps.State.{Bound, worked}
use Rattle.meaning.specs.Judging.Limits.{over}
use Rattle.meaning.proofs.Every.{every_get_d}
use Rattle.meaning.proofs.Messages.{normal_forms, normal_of_normal}
use Rattle.message_bytes.specs.Encoding.{encode_message}
use Rattle.buffer.specs.Buffer.{Within}
use Rattle.message_term.specs.Bound.{Found, BoundAt}
use Rattle.message_term.specs.Work.{answer_of, end_of, WorkedTo, Reaches, done}
use Rattle.message_term.specs.Inner.{FieldAt, NameWorked, VariableWorked}
use Rattle.message_term.specs.declared.work.Worked.{Worked}
use Rattle.message_bytes.proofs.Laws.Encoding.{length_encode}
use Rattle.buffer.proofs.Laws.Buffer.{lent, unlent, unchanged, wider, node_within, node_stands, copy_within, copy_stands}

-- An answer is one of the two.
pub done_or_large : {x : Worked} → Some x ≡ None → ⊥
done_or_large e = let z : ◌≡◌ {A = ℕ} 0 1 = cc in omega arith

-- There is one answer.
pub some_same : {x y : Worked} → Some x ≡ Some y → x ≡ y
some_same e = cc

-- How far an answer reaches.
pub reaches : {start left next end : ℕ} → start ≤ end → end ≤ start + 510 → 1 ≤ left → Reaches start left (done next end)
reaches {start} {left} {next} {end} h l n = record {
  there = λ x e. let same : end ≡ x.end = ap (λ w. w.end) (some_same e) in (rw (← same) h, rw (← same) l, n);
}

pub no_reach : {start left : ℕ} → Reaches start left None
no_reach = record { there = λ x e. absurd (done_or_large (sym e)) }

-- What makes the answer right.
module _ {ρ : Bound} {t : Term} {start next : ℕ} {after : List ℕ} where
  pub over_large : over ρ t ≡ true → WorkedTo ρ t start next None after
  unfolding answer_of
  over_large o = record { answer = rw o; run = λ n. absurd (true≢false (sym o ∙ n)) }

  pub not_over : {end : ℕ} → over ρ t ≡ false → end ≡ end_of ρ t start → Stands after start (encode_message (worked ρ t)) end
      → WorkedTo ρ t start next (done next end) after
  unfolding answer_of
  not_over o e p = record { answer = rw (o, e); run = λ n. rw e at p }

-- A public name.
pub name_worked : {s after : List ℕ} {at n next : ℕ} (before : List ℕ) (start : ℕ) → FieldAt s at n next → start + 2 ≤ length before
    → after ≡ set (set before start ((2 * n + 16) % 256)) (start + 1) ((2 * n + 16) / 256)
    → NameWorked s at start (done next (start + 2)) after
unfolding over normal encode_message
name_worked {n} before start f h e = record {
  exact = λ v ρ l p.
      let (value, end) = f.same v l p in
      rw (← value, ← end) (not_over refl refl (node_stands before start (2 * n + 16) e h));
}

-- A variable: its message stands below, and is copied unless it is too large.
module _ {s : List ℕ} {at k next from end : ℕ} (before : List ℕ) (base start : ℕ) (f : FieldAt s at k next)
    (g : Found (take (start - base) (drop base before)) k from end) where
  its_message : (ρ : Bound) → k < length ρ → BoundAt before base ρ start → let x = get_or ρ k (leaf (public 0)) in
      (normal x ≡ x) × (end ≡ from + 2 * nodes x)
      × (end ≤ start - base → Stands before (base + from) (encode_message x) (base + end))
  unfolding normal
  its_message ρ h b =
      let x = get_or ρ k (leaf (public 0)) in
      let q = g.there ρ (lent {last = start} b.bound.stands b.below) h in (
        normal_of_normal x (every_get_d b.bound.normal (normal_forms (leaf (public 0))).0 k),
        omega (arith, q.size, length_encode x),
        λ l. unlent base (start - base) q l,
      )

  -- The number that was read is the variable.
  by_variable : {r : Option Worked} {after : List ℕ}
      → ((ρ : Bound) → k < length ρ → BoundAt before base ρ start → WorkedTo ρ (leaf (variable k)) start next r after)
      → VariableWorked s at before base start r after
  by_variable w = record {
    exact = λ v ρ p h b.
        let (value, last) = f.same v (omega (arith, b.bound.few)) p in
        let u = w ρ (rw value h) b in rw (value, last) at u;
  }

  pub variable_large : 510 < end - from → VariableWorked s at before base start None before
  unfolding over
  variable_large l = by_variable λ ρ h b.
      let (n, size, q) = its_message ρ h b in
      over_large (rw n (lt-ltb 255 (nodes (get_or ρ k (leaf (public 0)))) (omega arith)))

  module _ {after : List ℕ} (l : end - from ≤ 510) (there : (from ≤ end) × (end ≤ length (take (start - base) (drop base before))))
      (room : (base ≤ start) × (start + 510 ≤ length before))
      (pasted : after ≡ paste before start (drop (base + from) before) (base + end - (base + from))) where
    size_copied : base + end - (base + from) ≡ end - from
    size_copied = omega arith

    e : after ≡ paste before start (drop (base + from) before) (end - from)
    e = rw size_copied at pasted

    inside : end ≤ start - base
    inside = omega (arith, length-take (start - base) (drop base before))

    pub variable_within : Within start (start + 510) before after
    variable_within =
        wider (copy_within before start (base + from) (end - from) e (omega arith) (let h = inside in omega arith)) (omega arith) (omega arith)

    pub variable_copied : VariableWorked s at before base start (done next (start + (end - from))) after
    unfolding over
    variable_copied = by_variable λ ρ h b.
        let x = get_or ρ k (leaf (public 0)) in
        let (n, size, q) = its_message ρ h b in
        let fits : end ≤ start - base = inside in
        let last : base + end ≡ base + from + (end - from) = omega arith in
        not_over (rw n (le-ltb 255 (nodes x) (omega arith))) (rw n (omega arith))
        (rw n (copy_stands before start (base + from) (end - from) e (omega arith) (omega arith) (rw last at (q fits))))

pub ruleset leaves = (no_reach, unchanged, node_within, name_worked, variable_within, variable_large, variable_copied)
