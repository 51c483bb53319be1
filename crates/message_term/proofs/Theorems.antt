-- Bound messages have one reading, and what the promises speak of is there ("Steps").
use mathlib.Core.Path.{refl}
use mathlib.Core.List.{[], ◌∷◌}
use native.Mathlib.Omega.{arith}
use lib.ListN.{length-append}
use Rattle.meaning.specs.Messages.Normal.{equal}
use Rattle.meaning.specs.Bytes.Encoding.{encode_term}
use Rattle.meaning.specs.Places.{none, ◌also◌}
use Rattle.meaning.specs.Steps.State.{worked}
use Rattle.meaning.specs.Judging.Limits.{bound_nodes}
use Rattle.meaning.proofs.Every.{every_joined}
use Rattle.meaning.proofs.Bytes.Reading.Place.{whole-stands}
use Rattle.message_bytes.specs.Encoding.{encode_message}
use Rattle.buffer.specs.Word.{encode_word}
use Rattle.message_bytes.proofs.Laws.Encoding.{length_encode, runs-end}
use Rattle.message_bytes.proofs.Laws.Alike.{same_runs}
use Rattle.message_term.proofs.Laws.Work.{still_bound}
use Rattle.message_term.specs.Bound.{encode_bound}
use Rattle.message_term.specs.Theorems.{BoundLength, WorkedTested, BoundInjective, TermsStand, BoundsStand, BoundKept, BoundFurther}

pub bound_length : BoundLength
unfolding encode_bound encode_word bound_nodes
bound_length [] = refl
bound_length (m ∷ ρ) =
    omega (arith, bound_length ρ, length_encode m, length-append (encode_message m) (encode_bound ρ))

pub worked_tested : WorkedTested
unfolding equal
worked_tested ρ σ t u = same_runs (worked ρ t) (worked σ u)

pub bound_injective : BoundInjective
unfolding encode_bound encode_word
bound_injective [] [] e = refl
bound_injective [] (n ∷ σ) e = cc
bound_injective (m ∷ ρ) [] e = cc
bound_injective (m ∷ ρ) (n ∷ σ) e =
    let first = runs-end m n (encode_bound ρ) (encode_bound σ) (cc) in
    let rest = bound_injective ρ σ first.1 in
    cc

pub terms_stand : TermsStand
terms_stand scope t h k = record { stands = whole-stands (encode_term t); deep = h; scoped = k }

pub bounds_stand : BoundsStand
bounds_stand ρ h k = record { stands = whole-stands (encode_bound ρ); few = k; normal = h }

pub bound_kept : BoundKept
bound_kept before after base start low high ρ b w h = still_bound b w h (omega arith)

pub bound_further : BoundFurther
bound_further before after base end last ρ m b n few bs = record {
  stands = bs.exact ρ b.stands;
  few = omega (arith, length-append ρ (m ∷ []));
  normal = every_joined b.normal (n also none);
}
