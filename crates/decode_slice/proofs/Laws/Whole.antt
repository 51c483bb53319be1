-- A whole slice ("Turned back for the input", 1 and 8).
use Rattle.std.specs.Prelude.{Ok, Err}
use mathlib.Core.Path.{◌≡◌, refl, sym, ◌∙◌}
use mathlib.Core.Bool.{Bool, true, false}
use mathlib.Core.List.{List}
use Prim.Native.Nat.{ℕ, ◌≤◌, ◌<◌}
use borrow.Author.Tests.{lt-leb, le-leb}
use lib.Dec.{leb}
use lib.ListN.{length}
use Rattle.meaning.specs.Bytes.Number.{Read, found, refused, and_then, provided}
use Rattle.meaning.specs.Bytes.Reading.{process, formula, whole, read_model, read_formula}
use Rattle.meaning.proofs.Bytes.Reader.{below, above}
use Rattle.decode_number.specs.Answer.{Extent, Answer, refusal_number, answer, extent}
use Rattle.decode_slice.specs.Sorts.{to_the_end}
use Rattle.decode_number.specs.declared.answer.Refused.{Refused}

module _ (s : List ℕ) {end : ℕ} where
  pub reaches : length s ≤ end → found tt end ≡ to_the_end s (found tt end)
  unfolding to_the_end and_then
  reaches h = rw (le-leb (length s) end h)

  pub falls_short : end < length s → refused 8 end ≡ to_the_end s (found tt end)
  unfolding to_the_end and_then
  falls_short h = rw (lt-leb (length s) end h)

-- What is refused before its end is so whatever the slice.
refused_before : (s : List ℕ) (number place : ℕ) → refused number place ≡ to_the_end s (refused number place)
unfolding to_the_end and_then
refused_before s number place = refl

-- The end of the tree is the end of the slice, whatever the tree.
tested : {A : Type 0} (test : Bool) (end : ℕ) (a : A) → extent (provided test 8 end a end) ≡ provided test 8 end tt end
unfolding extent
tested true end a = refl
tested false end a = refl

ended : {A : Type 0} (s : List ℕ) (x : Read A)
    → to_the_end s (extent x) ≡ extent (and_then x (λ a end. provided (leb (length s) end) 8 end a end))
unfolding to_the_end and_then extent
ended s (found a end) = sym (tested (leb (length s) end) end a)
ended s (refused number place) = refl

module _ {A : Type 0} (reader : ℕ → Read A) (s : List ℕ) where
  too_long : 4096 < length s → refused 1 4096 ≡ extent (whole reader s)
  unfolding whole extent
  too_long h = rw (below 4096 (length s) _ _ h)

  not_too_long : length s ≤ 4096 → to_the_end s (extent (reader 0)) ≡ extent (whole reader s)
  unfolding whole
  not_too_long h = rw (above 4096 (length s) _ _ h) (ended s (reader 0))

module _ (s : List ℕ) where
  pub model_long : 4096 < length s → refused 1 4096 ≡ extent (read_model s)
  unfolding read_model
  model_long h = too_long (process 64 0 s) s h

  pub formula_long : 4096 < length s → refused 1 4096 ≡ extent (read_formula s)
  unfolding read_formula
  formula_long h = too_long (formula 48 16 0 s) s h

  module _ (h : length s ≤ 4096) (a : Answer) where
    module _ (e : answer a ≡ extent (process 64 0 s 0)) where
      model_whole : to_the_end s (answer a) ≡ extent (read_model s)
      unfolding read_model
      model_whole = rw e (not_too_long (process 64 0 s) s h)

      pub model_ends : {end : ℕ} {x : Extent} → a ≡ Ok end → x ≡ to_the_end s (found tt end) → x ≡ extent (read_model s)
      model_ends f g = g ∙ rw f at model_whole

      pub model_refused : {f : Refused} → a ≡ Err f → refused (refusal_number f.why) f.place ≡ extent (read_model s)
      model_refused f = refused_before s _ _ ∙ rw f at model_whole

    module _ (e : answer a ≡ extent (formula 48 16 0 s 0)) where
      formula_whole : to_the_end s (answer a) ≡ extent (read_formula s)
      unfolding read_formula
      formula_whole = rw e (not_too_long (formula 48 16 0 s) s h)

      pub formula_ends : {end : ℕ} {x : Extent} → a ≡ Ok end → x ≡ to_the_end s (found tt end) → x ≡ extent (read_formula s)
      formula_ends f g = g ∙ rw f at formula_whole

      pub formula_refused : {f : Refused} → a ≡ Err f → refused (refusal_number f.why) f.place ≡ extent (read_formula s)
      formula_refused f = refused_before s _ _ ∙ rw f at formula_whole

pub ruleset slices = (
  reaches,
  falls_short,
  model_long,
  formula_long,
  model_ends,
  model_refused,
  formula_ends,
  formula_refused,
)
