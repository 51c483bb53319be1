-- Numbers are what arithmetic gives ("Bytes", first paragraph), and a promise leaves one answer only ("Turned back for the input").
use Rattle.std.specs.Prelude.{Ok, Err}
use mathlib.Core.Path.{◌≡◌, refl, sym, ap, ◌∙◌}
use mathlib.Core.Bool.{true, false}
use mathlib.Core.List.{List, [], ◌∷◌}
use Prim.Native.Nat.{ℕ, zero, suc, ◌+◌, ◌/◌, ◌<◌}
use native.Mathlib.Omega.{arith}
use lib.Dec.{eqb}
use lib.ListN.{length, get_or}
use Rattle.meaning.specs.Bytes.WellFormed.{Bytes}
use Rattle.meaning.specs.Bytes.Number.{Read, found, refused}
use Rattle.decode_number.specs.declared.answer.Refusal.{Refusal}
use Rattle.decode_number.specs.declared.answer.Refusal.TheVariants.{TooLong, Truncated, Malformed, UnknownKind}
use Rattle.decode_number.specs.declared.answer.Refusal.TheVariants.{NameRange, OutOfScope, TooDeep, Trailing}
use Rattle.decode_number.specs.declared.number.Fault as faults
use Rattle.decode_number.specs.declared.number.Fault.{Fault}
use Rattle.decode_number.specs.Answer.{Answer, refusal_number, answer, Numeral, numeral}
use Rattle.decode_number.specs.Decoding.{decoded_value, canonical}
use Rattle.decode_number.specs.Theorems.{NumbersDecoded, AnswersFixed, NumeralsFixed}
use Rattle.decode_number.proofs.Laws.Decoding.{by_order, none_value, none_end, none_form}
use Rattle.decode_number.proofs.Laws.Decoding.{last_value, missing_end, missing_form, there_end, there_form}

-- In every slice of bytes the number at a position is the one that arithmetic gives, if that is in the one form.
byte_at : (s : List ℕ) → Bytes s → (at : ℕ) → get_or s at 0 < 256
byte_at [] u at = omega arith
byte_at (b ∷ s) (h, u) zero = h
byte_at (b ∷ s) (h, u) (suc at) = byte_at s u at

pub numbers_decoded : NumbersDecoded
numbers_decoded s u at =
    let value = decoded_value s at in
    let byte = byte_at s u at in
    by_order at (length s)
    (λ h. by_order (at + get_or s at 0 / 128) (length s)
    (λ l. there_form s at refl l refl (sym (last_value s at refl byte refl refl)) byte ∙ ap (canonical s at value) (there_end s at refl l))
    (λ l. missing_form s at refl l value h byte ∙ ap (canonical s at value) (missing_end s at refl l)))
    (λ h. none_form s at h ∙ ap (λ v. canonical s at v at) (none_value s at h) ∙ ap (canonical s at value) (none_end s at h))

-- Each answer can be told from what it says.
abbrev numbered : ℕ → Refusal
numbered n =
    get_or (TooLong ∷ TooLong ∷ Truncated ∷ Malformed ∷ UnknownKind ∷ NameRange ∷ OutOfScope ∷ TooDeep ∷ Trailing ∷ []) n TooLong

is_numbered : (why : Refusal) → numbered (refusal_number why) ≡ why
is_numbered TooLong = refl
is_numbered Truncated = refl
is_numbered Malformed = refl
is_numbered UnknownKind = refl
is_numbered NameRange = refl
is_numbered OutOfScope = refl
is_numbered TooDeep = refl
is_numbered Trailing = refl

abbrev answered : Read (Unit {0}) → Answer
answered (found u end) = Ok end
answered (refused number place) = Err (record { why = numbered number; place = place })

is_answered : (a : Answer) → answered (answer a) ≡ a
is_answered (Ok end) = refl
is_answered (Err r) = rw (is_numbered r.why)

pub answers_fixed : AnswersFixed
answers_fixed a b e = sym (is_answered a) ∙ ap answered e ∙ is_answered b

abbrev spelled : Read ℕ → Numeral
spelled (found n end) = Ok (record { value = n; end = end })
spelled (refused number place) =
    elim (eqb number 2) [ true ↦ Err faults.TheVariants.Truncated | false ↦ Err faults.TheVariants.Malformed ]

is_spelled : (s : List ℕ) (at : ℕ) (a : Numeral) → spelled (numeral s at a) ≡ a
is_spelled s at (Ok n) = refl
is_spelled s at (Err faults.TheVariants.Truncated) = refl
is_spelled s at (Err faults.TheVariants.Malformed) = refl

pub numerals_fixed : NumeralsFixed
numerals_fixed s at a b e = sym (is_spelled s at a) ∙ ap spelled e ∙ is_spelled s at b

-- Nothing is found and refused.
pub never : {A : Type 0} → ◌≡◌ {A = ℕ} 0 1 → A
never z = absurd (omega arith)
