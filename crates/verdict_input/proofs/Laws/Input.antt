-- The work buffer and the slices, one after the other ("Turned back for the input").
use Rattle.std.specs.Prelude.{Ok, Err}
use Rattle.std.specs.Result.{result_and}
use mathlib.Core.Path.{◌≡◌, refl, ◌∙◌}
use mathlib.Core.Bool.{Bool, true, false}
use mathlib.Core.Option.{Option, none, some, or_else}
use mathlib.Core.List.{List}
use Prim.Native.Nat.{ℕ, ◌≤◌, ◌<◌}
use native.Mathlib.Omega.{arith}
use lib.Dec.{ltb}
use mir.Syntax.{w32}
use mir.Val.{Fits}
use Rattle.meaning.specs.Bytes.Process.{Process}
use Rattle.meaning.specs.Bytes.Formula.{Formula}
use Rattle.meaning.specs.Bytes.Number.{Read, found, refused}
use Rattle.meaning.specs.Bytes.Reading.{read_model, read_formula}
use Rattle.meaning.specs.Verdict.{Answer as Numbers, bad, with_first, with_second, with_formula, input, work_bytes}
use Rattle.meaning.proofs.Bytes.Reader.{below, above}
use Rattle.decode_number.specs.declared.answer.Refused.{Refused}
use Rattle.decode_number.specs.Answer.{Answer, refusal_number, answer, extent}
use Rattle.verdict_input.specs.declared.answer.Answer.{Answer as Code}
use Rattle.verdict_input.specs.Answer.{numbers, turned_back}
use Rattle.verdict_input.specs.Input.{Input, refusal, refusal_of, buffer_refusal, slice_refusal, Placed}

-- The buffer.
module _ (work : ℕ) where
  pub is_short : {x : Numbers} → work < 65536 → x ≡ turned_back 9 0 0 → some x ≡ buffer_refusal work
  unfolding buffer_refusal
  is_short h e = rw (below work work_bytes _ _ h, e)

  pub is_long : 65536 ≤ work → none ≡ buffer_refusal work
  unfolding buffer_refusal
  is_long h = rw (above work work_bytes _ _ h)

-- A slice.
module _ {a : Answer} where
  pub is_found : (slice : ℕ) {end : ℕ} → a ≡ Ok end → none ≡ slice_refusal slice (answer a)
  unfolding slice_refusal
  is_found slice f = rw f

  pub is_refused : {r : Refused} {slice n : ℕ} {x : Numbers} → a ≡ Err r → n ≡ refusal_number r.why
      → x ≡ turned_back n slice r.place → some x ≡ slice_refusal slice (answer a)
  unfolding slice_refusal
  is_refused f g e = rw (f, e, g)

  pub place_fits : {r : Refused} → Placed a → a ≡ Err r → Fits w32 r.place
  place_fits {r} p f = omega (arith, p.below r.why r.place f)

-- All of them.
ordered_third : (P Q : Process) (z : Read Formula) → slice_refusal 3 (extent z) ≡ refusal_of (with_formula P Q z)
unfolding slice_refusal extent refusal_of with_formula
ordered_third P Q (found F end) = refl
ordered_third P Q (refused number place) = refl

ordered_second : (P : Process) (y : Read Process) (s₃ : List ℕ)
    → or_else (slice_refusal 2 (extent y)) (slice_refusal 3 (extent (read_formula s₃))) ≡ refusal_of (with_second P y s₃)
unfolding slice_refusal extent refusal_of with_second or_else
ordered_second P (found Q end) s₃ = ordered_third P Q (read_formula s₃)
ordered_second P (refused number place) s₃ = refl

ordered_first : (x : Read Process) (s₂ s₃ : List ℕ)
    → or_else (slice_refusal 1 (extent x)) (or_else (slice_refusal 2 (extent (read_model s₂))) (slice_refusal 3 (extent (read_formula s₃))))
    ≡ refusal_of (with_first x s₂ s₃)
unfolding slice_refusal extent refusal_of with_first or_else
ordered_first (found P end) s₂ s₃ = ordered_second P (read_model s₂) s₃
ordered_first (refused number place) s₂ s₃ = refl

pub ordered : (s₁ s₂ s₃ : List ℕ) (work : ℕ) {x : Option Numbers}
    → x ≡ or_else (buffer_refusal work) (or_else (slice_refusal 1 (extent (read_model s₁)))
    (or_else (slice_refusal 2 (extent (read_model s₂))) (slice_refusal 3 (extent (read_formula s₃)))))
    → x ≡ refusal_of (input s₁ s₂ s₃ work)
unfolding buffer_refusal input or_else refusal_of
ordered s₁ s₂ s₃ work e = e ∙ by (ltb work work_bytes)
  where
    by : (b : Bool)
        → or_else (elim b [ true ↦ some (turned_back 9 0 0) | false ↦ none ]) (or_else (slice_refusal 1 (extent (read_model s₁)))
        (or_else (slice_refusal 2 (extent (read_model s₂))) (slice_refusal 3 (extent (read_formula s₃)))))
        ≡ refusal_of (elim b [ true ↦ bad 9 0 0 | false ↦ with_first (read_model s₁) s₂ s₃ ])
    by true = refl
    by false = ordered_first (read_model s₁) s₂ s₃

-- The first of two is that of the first, if it has one.
pub earlier : (a b : Input) → refusal (result_and a b) ≡ or_else (refusal a) (refusal b)
unfolding or_else
earlier (Ok u) b = refl
earlier (Err r) b = refl

pub ruleset inputs = (is_short, is_long, is_found, is_refused)
