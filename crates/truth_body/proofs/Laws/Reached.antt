-- A state that was formed is one that judging may go on with, and what stands before it stays ("Judging and its count").
use Rattle.std.specs.Prelude.{Option, Some, None}
use mathlib.Core.Path.{◌≡◌, refl, sym, subst}
use mathlib.Core.Bool.{Bool, true, false}
use mathlib.Core.List.{List}
use Prim.Native.Nat.{ℕ, ◌+◌, ◌*◌, ◌≤◌}
use native.Mathlib.Omega.{arith}
use lib.ListN.{length}
use Rattle.meaning.specs.Judging.Visits.{Arrival}
use Rattle.buffer.specs.Buffer.{Within}
use Rattle.buffer.proofs.Laws.Buffer.{unchanged, wider}
use Rattle.message_term.specs.Bound.{BoundAt}
use Rattle.state_record.specs.declared.state.State as code
use Rattle.state_start.specs.Form.{Forms}
use Rattle.state_layout.specs.Layout.{StateAt, over_arrival}
use Rattle.step_transition.specs.WithinLimits.{WithinLimits}
use Rattle.step_transition.proofs.Laws.Capacity.{state_size}
use Rattle.successor_rebuild.proofs.Laws.Formed.{within_kept}
use Rattle.truth_body.specs.Reached.{JudgingRoom, Here, Reached, Unchanged}

-- What is formed from a position on ends behind it.
abbrev pub Above : ℕ → Option code.State → Type 0
Above begin (Some st) = begin ≤ st.end
Above begin None = Unit {0}

module _ {s out : List ℕ} {begin : ℕ} {A : Arrival} {r : Option code.State} (formed : Forms s begin A r out)
    (holds : over_arrival A ≡ false → (st : code.State) → StateAt s out st A.state → WithinLimits s out st A.state)
    (steps : ℕ) (early : begin + 2976 * (steps + 1) ≤ 50592) (few : length A.state.aliases + steps ≤ 16) where
  pub reached : Reached s out r A steps × Above begin r
  reached = of (over_arrival A) refl
    where
      of : (b : Bool) → over_arrival A ≡ b → Reached s out r A steps × Above begin r
      of true e = subst (λ (f : Option code.State). Reached s out f A steps × Above begin f) (sym (formed.none e)) (e, tt)
      of false e =
          let (st, same, at, aliases) = formed.some e in
          let within = holds e st at in
          let here : Here s out st A steps =
          record { free = e; within = within; early = omega (arith, state_size within, aliases); few = few } in
          let above : begin ≤ st.end = omega (arith, at.aliases.stands.size, at.records.size, aliases) in
          subst (λ (f : Option code.State). Reached s out f A steps × Above begin f) (sym same) (here, above)

-- What is before a state stays where a later one is visited.
pub kept_below : {out after : List ℕ} {begin : ℕ} (r : Option code.State) → Above begin r → begin ≤ length out → Unchanged r out after → Within begin (length out) out after
kept_below (Some st) above h w = wider w above (omega arith)
kept_below None above h w = wider w h (omega arith)

pub kept_same : (formed : Option code.State) (out : List ℕ) → Unchanged formed out out
kept_same (Some st) out = unchanged
kept_same None out = unchanged

-- A state and its room stay.
unfoldable pub here_kept : {s out out₁ : List ℕ} {st : code.State} {A : Arrival} {steps high : ℕ} → Within st.end high out out₁
    → Here s out st A steps → Here s out₁ st A steps
here_kept w h = record { free = h.free; within = within_kept w h.within; early = h.early; few = h.few }

pub room_kept : {s m m₁ out out₁ : List ℕ} → length m₁ ≡ length m → length out₁ ≡ length out → JudgingRoom s m out → JudgingRoom s m₁ out₁
room_kept e f r = record { short = r.short; wide = omega (arith, r.wide); long = omega (arith, r.long) }

-- The messages of its aliases are bound in front of it.
pub bound_here : {s out : List ℕ} {st : code.State} {A : Arrival} {steps : ℕ} → Here s out st A steps
    → BoundAt out st.aliases A.state.aliases st.end
bound_here {st = st} h =
    let a = h.within.at in
    record { end = st.start; bound = a.aliases; below = omega (arith, a.records.size) }
