-- The state that a step leads to: first the names of its rests, then its threads ("Steps"; "Judging and its count").
use Rattle.std.specs.Prelude.{Option, Some, None}
use mathlib.Core.Path.{◌≡◌, refl, sym, ◌∙◌}
use mathlib.Core.Bool.{Bool, true, false, ◌||◌, true≢false}
use mathlib.Core.List.{List}
use Prim.Native.Nat.{ℕ, ◌+◌}
use native.Mathlib.Omega.{arith}
use borrow.Author.Tests.{ltb-false, le-ltb}
use lib.Dec.{ltb}
use lib.ListN.{length}
use Rattle.meaning.specs.Messages.Term.{Message}
use Rattle.meaning.specs.Steps.State.{State}
use Rattle.meaning.specs.Logic.Truth.{any_of}
use Rattle.meaning.specs.Judging.Limits.{bound_nodes, thread_nodes, over_state}
use Rattle.meaning.specs.Judging.Visits.{Arrival}
use Rattle.meaning.proofs.Test.{neither}
use Rattle.buffer.specs.Buffer.{Within}
use Rattle.state_record.specs.declared.state.State as code
use Rattle.state_layout.specs.Layout.{over_arrival}
use Rattle.step_transition.specs.Moves.{Move}
use Rattle.step_transition.specs.Moving.{Moving, Leading}
use Rattle.step_transition.specs.Outcome.{outcome, arrival_of}
use Rattle.step_transition.specs.WithinLimits.{WithinLimits}
use Rattle.successor_continuation.specs.Rests.{last_for, rests_of, Settles}
use Rattle.successor_threadless.specs.Threadless.{threadless_of, itself, threadless, FormsThreadless}
use Rattle.successor_state.specs.Lead.{Leads, LeadsAt, LeadsFor}
use Rattle.step_label.specs.declared.step.Step as step
use Rattle.successor_continuation.specs.declared.names.Rests.{Rests}
use Rattle.successor_rebuild.proofs.Laws.Formed.{within_kept}

-- The steps of a state stay where nothing is written before its end, and so does the room for what they lead to.
moving_kept : {s out out₁ message : List ℕ} {st : code.State} {S : State} {high : ℕ} (w : Within st.end high out out₁) (h : WithinLimits s out st S)
    {v : step.Step} {x : Message} {u : Move} → Moving s out st S h v x u message → Moving s out₁ st S (within_kept w h) v x u message
unfolding within_kept
moving_kept w h moving = record {
  channel = moving.channel;
  earlier = moving.earlier;
  others = moving.others;
  listed = moving.listed;
  same = moving.same;
  stored = moving.stored;
  small = moving.small;
  labelled = moving.labelled;
}

leading_kept : {s m m₁ out out₁ : List ℕ} {st : code.State} {S : State} {low high high₁ : ℕ} → Within low high m m₁
    → Within st.end high₁ out out₁ → Leading s st S m out → Leading s st S m₁ out₁
leading_kept wm wo leading = record {
  short = leading.short;
  wide = omega (arith, leading.wide, wm.long);
  room = omega (arith, leading.room, wo.long);
  few = leading.few;
}

-- Names, or a limit.
names_or_limit : {r : Rests} → Some r ≡ None → ⊥
names_or_limit e = let z : ◌≡◌ {A = ℕ} 0 1 = cc in omega arith

pub record Known (large : Bool) (a b last next : ℕ) : Type 0 where
  pub small : large ≡ false
  pub last_is : last ≡ a
  pub next_is : next ≡ b

known : (large : Bool) (a b : ℕ) {r : Rests} → Some r ≡ rests_of large a b → Known large a b r.last r.next
known true a b e = absurd (names_or_limit e)
known false a b e = record { small = refl; last_is = cc; next_is = cc }

over : (large : Bool) (a b : ℕ) → None ≡ rests_of large a b → large ≡ true
over true a b e = refl
over false a b e = absurd (names_or_limit (sym e))

module _ {s : List ℕ} {st : code.State} {v : step.Step} {message m out : List ℕ} {c : Option Rests} (settles : Settles s st v message m out c) where
  pub leads_over : {after : List ℕ} → c ≡ None → Leads s st v message m out None after
  leads_over e = record {
    exact = λ S h x w moving leading.
        let o = outcome h.at.placed S.next x w in
        let large = over o.large (last_for w) o.next (sym e ∙ settles.exact S h x w moving leading) in
        record { none = λ t. refl; some = λ t. absurd (true≢false (sym (or_first o.large _ large) ∙ t)) };
  }
    where
      or_first : (a b : Bool) → a ≡ true → (a || b) ≡ true
      or_first a b e = rw e

  pub leads_on : {m₁ after : List ℕ} {f : Option code.State} {r : Rests} {low high : ℕ} → c ≡ Some r → Within low high m m₁
      → LeadsAt s st v r.last r.next message m₁ out f after → Leads s st v message m out f after
  leads_on e wm leads = record {
    exact = λ S h x w moving leading.
        let o = outcome h.at.placed S.next x w in
        let k = known o.large (last_for w) o.next (sym e ∙ settles.exact S h x w moving leading) in
        leads.exact S h x w moving (record {
          short = leading.short;
          wide = omega (arith, leading.wide, wm.long);
          room = leading.room;
          few = leading.few;
        }) k.small k.last_is k.next_is;
  }

pub ruleset leadings = (leads_over, leads_on)

-- A state without its threads is within its limits if the whole one is.
pub threadless_free : (A : Arrival) → over_arrival A ≡ false → over_arrival (threadless_of A) ≡ false
unfolding over_state any_of thread_nodes
threadless_free A e =
    let S = A.state in
    let (small, within) = neither A.large _ e in
    let n = thread_nodes S.threads + bound_nodes S.aliases in
    let (counts, offers) = neither (ltb 32 (length S.threads) || ltb 128 S.next || ltb 1024 n) _ within in
    let (both, many) = neither (ltb 32 (length S.threads) || ltb 128 S.next) _ counts in
    let (few, made) = neither (ltb 32 (length S.threads)) _ both in
    let light = le-ltb 1024 (0 + bound_nodes S.aliases) (omega (arith, ltb-false 1024 n many)) in
    rw (small, made, light)

-- For those that look at the threads, and for others.
module _ {s : List ℕ} {st : code.State} {v : step.Step} {message m out : List ℕ} {f : Option code.State} where
  pub leads_whole : {stepless : Bool} {after : List ℕ} → Leads s st v message m out f after → LeadsFor stepless s st v message m out f after
  leads_whole leads = record {
    exact = λ S h x w moving leading.
        (arrival_of S (outcome h.at.placed S.next x w), itself, leads.exact S h x w moving leading);
  }

  pub leads_again : {stepless : Bool} {m₁ out₁ after : List ℕ} {low high high₁ : ℕ} → Within low high m m₁ → Within st.end high₁ out out₁
      → Leads s st v message m₁ out₁ f after → LeadsFor stepless s st v message m out f after
  unfolding within_kept
  leads_again wm wo leads = record {
    exact = λ S h x w moving leading. (
      arrival_of S (outcome h.at.placed S.next x w),
      itself,
      leads.exact S (within_kept wo h) x w (moving_kept wo h moving) (leading_kept wm wo leading),
    );
  }

  pub leads_threadless : {after : List ℕ} {b : code.State} {stepless : Bool} → FormsThreadless s st v message m out f after → f ≡ Some b → stepless ≡ true
      → LeadsFor stepless s st v message m out (Some b) after
  leads_threadless {after} {b} forms e q = record {
    exact = λ S h x w moving leading.
        let A = arrival_of S (outcome h.at.placed S.next x w) in
        let (free, stands, begins) = forms.exact S h x w moving leading b e in (
          threadless_of A,
          rw q (threadless free),
          record {
            none = λ t. absurd (true≢false (sym t ∙ threadless_free A free));
            some = λ t. (b, refl, stands, begins);
          },
        );
  }

pub ruleset stepless_leadings = (leads_whole, leads_again, leads_threadless)
