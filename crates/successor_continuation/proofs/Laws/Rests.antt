-- The private names that the rests of a step take ("Steps").
use Rattle.std.specs.Prelude.{Option, Some, None}
use Prim.Native.Nat.{ℕ, ◌+◌, ◌-◌, ◌≤◌, ◌<◌}
use native.Mathlib.Omega.{arith}
use native.Mathlib.Nat.{le_refl}
use mathlib.Core.Path.{◌≡◌, refl, sym, ◌∙◌, ap, subst}
use mathlib.Core.List.{List, ◌∷◌, ◌++◌}
use Rattle.state_record.specs.Record.{Placed}
use Rattle.state_record.specs.declared.state.State as code
use Rattle.state_task.specs.declared.task.CopyAt.{CopyAt}
use Rattle.step_transition.specs.Focus.{record_at, offers_of}
use Rattle.step_transition.specs.CopyOffers.{ThreadAt, takers_at, excluded_by}
use Rattle.step_transition.specs.Step.{step_of}
use Rattle.successor_continuation.specs.Counting.{Counts, CountsIn}
use Rattle.successor_continuation.specs.declared.names.Rests.{Rests}
use Rattle.successor_continuation.specs.Rests.{rests_at, only_of, then_of, CountsActor, CountsTaker, step_copies}
use Rattle.step_label.specs.declared.step.Step as step
use Rattle.step_label.specs.declared.step.Actor.{Actor}
use Rattle.step_transition.proofs.Laws.Records.{record_long}
use Rattle.step_transition.proofs.Laws.CopyMoves.{mode_of}

-- A record that stands before a position takes at least four bytes of those before it.
pub record_below : {s out m : List ℕ} {at k to : ℕ} (t : Placed) → ThreadAt s out m at k to t → at + 4 ≤ to
record_below t h = omega (arith, h.recorded.stands.size, record_long t, h.below)

-- So where there is no room for one, nothing is to be counted.
module _ {s : List ℕ} {st : code.State} {message m out : List ℕ} {n : ℕ} {r : Option ℕ} where
  pub actor_none : {v : Actor} {k : ℕ} → st.end < 4 → CountsActor s st v k n message m out r
  actor_none l = record { exact = λ p a x before after h i few e f. absurd (omega (arith, record_below p.thread h)) }

  pub actor_short : {v : Actor} {k : ℕ} → st.end - 4 < v.at → CountsActor s st v k n message m out r
  actor_short l = record {
    exact = λ p a x before after h i few e f.
        absurd (omega (arith, record_below p.thread h, ap (λ (w : Actor). w.at) f));
  }

  pub taker_none : {v : step.Step} → st.end < 4 → CountsTaker s st v n message m out r
  taker_none l = record {
    between = λ p q u x before after h i low small few e f. absurd (omega (arith, record_below q.thread h));
    inside = λ p arity w u x pre post before after h i e low later few g f. absurd (omega (arith, record_below p.thread h));
  }

  pub taker_short : {v : step.Step} → st.end - 4 < v.taker.at → CountsTaker s st v n message m out r
  unfolding step_of
  taker_short l = record {
    between = λ p q u x before after h i low small few e f.
        absurd (omega (arith, record_below q.thread h, ap (λ (w : step.Step). w.taker.at) f));
    inside = λ p arity w u x pre post before after h i e low later few g f.
        absurd (omega (arith, record_below p.thread h, ap (λ (w : step.Step). w.taker.at) f));
  }

  -- The offer that acts is the one at the mark of the actor.
  pub actor_counted : {v : Actor} {k : ℕ} → Counts s message v.at k m v.mark n out r → CountsActor s st v k n message m out r
  actor_counted {v} {k} c = record {
    exact = λ p a x before after h i few e f.
        let here : record_at st.start p ≡ v.at = sym (ap (λ (w : Actor). w.at) f) in
        c.exact p.thread x before after a (subst (λ i. ThreadAt s out m i k st.end p.thread) here h) i (le_refl k)
        (omega (arith, h.few)) few e (ap (λ (w : Actor). w.mark) f);
  }

-- The copies of a taker in another thread open after those of the sender; one in the copies of a repl thread takes in these.
module _ {s : List ℕ} {st : code.State} {message m out : List ℕ} {n : ℕ} {r : Option ℕ} {v : step.Step} where
  pub taker_between : v.arity ≡ 0 → Counts s message v.taker.at v.sender.next m v.taker.mark n out r
      → CountsTaker s st v n message m out r
  unfolding step_of
  taker_between e c = record {
    between = λ p q u x before after {k} h i low small few g f.
        let here : record_at st.start q ≡ v.taker.at = sym (ap (λ (w : step.Step). w.taker.at) f) in
        let next : u.sender.next ≡ v.sender.next = sym (ap (λ (w : step.Step). w.sender.next) f) in
        c.exact q.thread x before after u.taker (subst (λ i. ThreadAt s out m i k st.end q.thread) here h) i
        (omega (arith, next)) (omega (arith, next)) few (subst (λ (j : ℕ). offers_of q.thread j ≡ before ++ (u.taker ∷ after)) next g)
        (ap (λ (w : step.Step). w.taker.mark) f);
    inside = λ p arity w u x pre post before after h i g low later few j f.
        absurd (omega (arith, mode_of arity w u low later.arity, ap (λ (w : step.Step). w.arity) f));
  }

  pub taker_inside : {c : CopyAt} → (v.arity ≡ 0 → ⊥) → c ≡ step_copies v
      → CountsIn s message v.taker.at st.names m c v.taker.mark n out r → CountsTaker s st v n message m out r
  unfolding step_of
  taker_inside e own c = record {
    between = λ p q u x before after h i low small few g f. absurd (e (ap (λ (w : step.Step). w.arity) f));
    inside = λ p arity w u x pre post before after h i g low later few j f.
        let here : record_at st.start p ≡ v.taker.at = sym (ap (λ (w : step.Step). w.taker.at) f) in
        let there = subst (λ i. ThreadAt s out m i st.names st.end p.thread) here h in
        let same : ◌≡◌ {A = CopyAt} _ (takers_at arity w u.sender) =
        own ∙ ap step_copies f
        ∙ ap (λ (i : ℕ). record { place = w.place + 1; arity = i; second = u.sender.next }) (mode_of arity w u low later.arity) in
        let count = subst (λ (i : CopyAt). CountsIn s message v.taker.at st.names m i v.taker.mark n out r) same c in
        count.exact p.thread x pre post w before after u.taker there i few g refl low later (excluded_by arity u.sender) j
        (ap (λ (w : step.Step). w.taker.mark) f);
  }

pub ruleset actors = (actor_none, actor_short, actor_counted)

pub ruleset takings = (taker_none, taker_short, taker_between, taker_inside)

-- The answers where a rest meets no limit, and where one does: for one rest, and for a second one.
pub only_names : {c : Option ℕ} {n : ℕ} → c ≡ Some n → rests_at 0 n ≡ only_of c
only_names e = ap only_of (sym e)

pub then_names : {c : Option ℕ} {last n : ℕ} → c ≡ Some n → rests_at last n ≡ then_of last c
then_names {last = last} e = ap (then_of last) (sym e)

pub only_none : {c : Option ℕ} {r : Option Rests} → r ≡ None → c ≡ None → r ≡ only_of c
only_none e f = e ∙ ap only_of (sym f)

pub then_none : {c : Option ℕ} {r : Option Rests} (last : ℕ) → r ≡ None → c ≡ None → r ≡ then_of last c
then_none last e f = e ∙ ap (then_of last) (sym f)

pub ruleset answers = (only_names, then_names, only_none, then_none)
