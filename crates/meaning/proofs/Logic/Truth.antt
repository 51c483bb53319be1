-- The evaluator over the enumeration agrees with the truth table of classical FM ("Steps", last paragraph).
use lib.Dec.{T_not, not_T}
use lib.Ieee.Fits.{and_i}
use mir.Facts.{and_yes}
use Rattle.meaning.specs.Bytes.Formula.{equal, not, and, step}
use Rattle.meaning.specs.Steps.State.{written}
use Rattle.meaning.specs.Steps.Enumeration.{steps}
use Rattle.meaning.specs.Logic.Truth.{True, holds}
use Rattle.meaning.specs.Theorems.{TruthEvaluated}
use Rattle.meaning.proofs.Messages.{equality_decided}
use Rattle.meaning.proofs.Steps.Enumeration.{steps_enumerated}
use Rattle.meaning.proofs.Test.{some_passes, passes_some, some_map}

pub truth_evaluated : TruthEvaluated
unfolding holds
truth_evaluated (equal M N) S = equality_decided (written S.aliases M) (written S.aliases N)
truth_evaluated (not F) S =
    let ih = truth_evaluated F S in
    (λ h. not_T (holds F S) (λ t. h (ih.1 t)), λ t h. T_not (holds F S) t (ih.0 h))
truth_evaluated (and F G) S =
    let f = truth_evaluated F S in
    let g = truth_evaluated G S in (
      λ h. and_i (holds F S) (holds G S) (f.0 h.0) (g.0 h.1),
      λ t. let b = and_yes (holds F S) (holds G S) t in (f.1 b.0, g.1 b.1),
    )
truth_evaluated (step a F) S =
    let listed = steps_enumerated S a (True F) in (
      λ h. some_passes (holds F) (some_map (λ T. (truth_evaluated F T).0) (listed.to h)),
      λ t. listed.from (some_map (λ T. (truth_evaluated F T).1) (passes_some (holds F) (steps S a) t)),
    )
