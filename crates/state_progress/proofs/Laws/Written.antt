-- A thread that is written, and kept ("Steps").
use mathlib.Core.Path.{◌≡◌, refl, sym, ◌∙◌}
use mathlib.Core.Bool.{true, false, true≢false}
use mathlib.Core.List.{List}
use Prim.Native.Nat.{ℕ, ◌≤◌}
use native.Mathlib.Omega.{arith}
use lib.ListN.{length}
use Rattle.meaning.specs.Messages.Equation.{Normal}
use Rattle.meaning.specs.Places.{Every}
use Rattle.meaning.specs.Steps.State.{Thread}
use Rattle.state_record.specs.Place.{ProcessAt}
use Rattle.state_record.specs.Record.{Standing, process_of, bound_of}
use Rattle.state_progress.specs.TraversalResult.{Accumulated, TraversalResult, going, over_limit, found, further}
use Rattle.state_progress.specs.Represented.{Represents, RepresentsResult}
use Rattle.state_progress.specs.Written.{Pushes, Keeps}
use Rattle.state_progress.specs.declared.progress.Progress.{Progress}
use Rattle.state_record.proofs.Laws.Process.{process_kind}
use Rattle.index_process.specs.Index.{ShortModel}

-- A thread whose process stands at a position of a model can be written.
pub stands_there : {s : List ℕ} {at left next : ℕ} (t : Thread) → ShortModel s → left ≤ 64
    → ProcessAt s at left (length (bound_of t)) (process_of t) next → Every Normal (bound_of t)
    → Standing s (record { place = at; thread = t })
stands_there {next = next} t h d p n =
    let (k, l, o) = process_kind (process_of t) p in
    record {
      next = next;
      process = record {
        stands = p.stands;
        deep = omega (arith, p.deep);
        terms = p.terms;
        scoped = p.scoped;
        few = p.few;
        indexed = p.indexed;
        inside = p.inside;
      };
      normal = n;
      fits = omega arith;
    }

-- A course that is shown by a traversal that does not go on goes no further.
pub no_further : (s after : List ℕ) (r : Progress) (c : TraversalResult) (f : Accumulated → TraversalResult) → RepresentsResult s after r c → r.going ≡ false
    → RepresentsResult s after r (further c f)
no_further s after r (going g) f d off = absurd (true≢false (sym d.on ∙ off))
no_further s after r over_limit f d off = d
no_further s after r (found x n ms) f d off = d

-- One that is shown by a traversal that goes on goes on.
pub goes_further : (s after : List ℕ) (r : Progress) {out : List ℕ} {now : Progress} (c : TraversalResult) (f : Accumulated → TraversalResult)
    → RepresentsResult s out now c → now.going ≡ true → ((g : Accumulated) → c ≡ going g → Represents s out now g → RepresentsResult s after r (f g))
    → RepresentsResult s after r (further c f)
goes_further s after r (going g) f d on h = h g refl d
goes_further s after r over_limit f d on h = absurd (true≢false (sym on ∙ d.off))
goes_further s after r (found x n ms) f d on h = absurd (true≢false (sym on ∙ d.off))

-- It is written after what else is left of it.
module _ {m out : List ℕ} {at end : ℕ} {now : Progress} where
  pub keeps_none : now.going ≡ false → Keeps m end at out now now out
  keeps_none off = record { exact = λ s t c b p d. no_further s out now c _ d off }

  pub keeps_thread : {after : List ℕ} {r : Progress} → now.going ≡ true → Pushes m end at out now r after → Keeps m end at out now r after
  keeps_thread {after} {r} on w = record {
    exact = λ s t c b p d. goes_further s after r c _ d on (λ g e v. w.exact s t g b p v);
  }

pub ruleset keepings = (keeps_none, keeps_thread)
