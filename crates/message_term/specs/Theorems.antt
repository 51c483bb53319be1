-- The theorems on bound messages and terms in bytes ("Steps"; "Messages"). Their proofs are in proofs/Theorems.antt, under the same names
-- in snake case.
use Rattle.std.specs.Prelude.{◌≡◌, List, ℕ, ◌+◌, ◌*◌, ◌≤◌, ◌<◌, length}
use Rattle.meaning.specs.Messages.Term.{Term, Message}
use Rattle.meaning.specs.Messages.Equation.{Normal}
use Rattle.meaning.specs.Messages.Normal.{equal}
use Rattle.meaning.specs.Bytes.Encoding.{encode_term}
use Rattle.meaning.specs.Bytes.Nesting.{term_depth}
use Rattle.meaning.specs.Bytes.Scope.{TermScoped}
use Rattle.meaning.specs.Places.{Every}
use Rattle.meaning.specs.Steps.State.{Bound, ◌▸◌, written, worked}
use Rattle.meaning.specs.Judging.Limits.{bound_nodes}
use Rattle.message_bytes.specs.Encoding.{encode_message}
use Rattle.buffer.specs.Buffer.{Within}
use Rattle.message_bytes.specs.Run.{alike}
use Rattle.message_term.specs.Bound.{encode_bound, BoundTo, BoundAt, Binds}
use Rattle.message_term.specs.Work.{TermAt}

-- Bound messages take two bytes for each node and two for each message.
abbrev pub BoundLength : Type 0
BoundLength = (ρ : Bound) → length (encode_bound ρ) ≡ 2 * (length ρ + bound_nodes ρ)

-- The test of the runs of two terms that were worked, each under its own bound messages, is the test of equality.
abbrev pub WorkedTested : Type 0
WorkedTested =
    (ρ σ : Bound) (t u : Term) → alike (encode_message (worked ρ t)) (encode_message (worked σ u)) ≡ equal (written ρ t) (written σ u)

-- No two lists of bound messages are written alike.
abbrev pub BoundInjective : Type 0
BoundInjective = (ρ σ : Bound) → encode_bound ρ ≡ encode_bound σ → ρ ≡ σ

-- The premises of the promises can be met: every term within the limits stands in its own bytes, and so do messages in normal form.
abbrev pub TermsStand : Type 0
TermsStand =
    (scope : ℕ) (t : Term) → term_depth t ≤ 8 → TermScoped scope t → TermAt (encode_term t) 0 8 scope t (length (encode_term t))

abbrev pub BoundsStand : Type 0
BoundsStand = (ρ : Bound) → Every Normal ρ → length ρ ≤ 16384 → BoundTo (encode_bound ρ) 0 ρ (length (encode_bound ρ))

-- What is bound below the bytes that a call may write is still bound after it.
abbrev pub BoundKept : Type 0
BoundKept =
    (before after : List ℕ) (base start low high : ℕ) (ρ : Bound) → BoundAt before base ρ start → Within low high before after
    → start ≤ low → BoundAt after base ρ start

-- After a message in normal form was bound, the next one can be.
abbrev pub BoundFurther : Type 0
BoundFurther =
    (before after : List ℕ) (base end last : ℕ) (ρ : Bound) (m : Message) → BoundTo before base ρ end → Normal m
    → length ρ < 16384 → Binds before end m last after → BoundTo after base (ρ ▸ m) last
