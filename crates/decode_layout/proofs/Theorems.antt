-- Ends are those that were read ("Turned back for the input").
use mathlib.Core.Path.{◌≡◌, ◌∙◌}
use mathlib.Core.List.{List}
use Prim.Native.Nat.{ℕ}
use Rattle.meaning.specs.Bytes.Number.{Read, found}
use Rattle.meaning.specs.Bytes.Standing.{Stands}
use Rattle.meaning.proofs.Bytes.Reader.{Only, holds, fails}
use Rattle.meaning.proofs.Bytes.Reading.Term.{term_sound}
use Rattle.decode_number.specs.Answer.{extent}
use Rattle.decode_layout.specs.Ends.{EndOf}
use Rattle.decode_number.proofs.Theorems.{never}
use Rattle.decode_layout.specs.Theorems.{EndsAgree}

-- What was found stands there, so it ends where it was found to end.
ends-agree : {A : Type 0} {encode : A → List ℕ} {s : List ℕ} {at end r : ℕ} {P : A → ℕ → Type 0} {x : Read A} → Only P x
    → ((a : A) (e : ℕ) → P a e → Stands s at (encode a) e) → extent x ≡ found tt end → EndOf encode s at r → r ≡ end
unfolding extent
ends-agree (holds {a} {end} p) stands e h = h.same a (stands a end p) ∙ cc
ends-agree (fails t) stands e h = never (cc)

pub ends_agree : EndsAgree
ends_agree s bytes left scope at end r = ends-agree (term_sound bytes left scope at) (λ t e p. p.0)
