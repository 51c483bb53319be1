-- A step formula: its label, and then its steps ("Judging and its count").
use Rattle.std.specs.Prelude.{Option, Some, None}
use mathlib.Core.Path.{◌≡◌, refl, sym, ap, subst, ◌∙◌}
use mathlib.Core.Bool.{Bool, true, false}
use mathlib.Core.List.{List}
use Prim.Native.Nat.{ℕ, ◌+◌, ◌-◌, ◌≤◌}
use native.Mathlib.Omega.{arith}
use lib.ListN.{take, drop}
use Rattle.meaning.specs.Bytes.Formula.{Label, Formula}
use Rattle.meaning.specs.Judging.{some_of, judge}
use Rattle.meaning.specs.Judging.Limits.{over_label}
use Rattle.meaning.specs.Judging.Visits.{Arrival}
use Rattle.buffer.specs.Buffer.{Within}
use Rattle.buffer.proofs.Laws.Buffer.{one_after, wider}
use Rattle.state_record.specs.declared.state.State as code
use Rattle.step_transition.specs.Behind.{moves_of}
use Rattle.successor_rebuild.proofs.Laws.Formed.{within_kept}
use Rattle.truth_label.specs.Head.{label_of_step, channel_of, taken_of, head_of, headed_of, Heads, Short}
use Rattle.truth_label.specs.declared.head.Head as head
use Rattle.truth_body.specs.Judged.{at_limit, judged_of}
use Rattle.truth_body.specs.Reached.{Here}
use Rattle.truth_judge.specs.Steps.{Stepped, Asked, judgements, AllSteps}
use Rattle.truth_body.specs.declared.judged.Judged.{Judged}
use Rattle.truth_body.proofs.Laws.Budget.{done_as}
use Rattle.truth_body.proofs.Laws.Meets.{limit, judge_step}
use Rattle.truth_judge.proofs.Laws.Arrivals.{judged_by}
use Rattle.truth_body.proofs.Laws.Reached.{here_kept, room_kept, bound_here}

-- The label of a step formula is too large, or its steps are judged.
said_large : (b : Bool) (h : head.Head) {r : Option head.Head} → r ≡ headed_of b h → r ≡ None → b ≡ true
unfolding headed_of
said_large true h e d = refl
said_large false h e d = absurd (let z : ◌≡◌ {A = ℕ} 0 1 = cc in omega arith)

said_head : (b : Bool) (h : head.Head) {g : head.Head} {r : Option head.Head} → r ≡ headed_of b h → r ≡ Some g → (b ≡ false) × (g ≡ h)
unfolding headed_of
said_head true h e d = absurd (let z : ◌≡◌ {A = ℕ} 0 1 = cc in omega arith)
said_head false h e d = (refl, cc)

module _ {s f m out out₁ channel taken : List ℕ} {kind at : ℕ} {st : code.State} {r : Option head.Head}
    (heads : Heads f kind at st.aliases st.end out r channel taken)
    (within : Within st.end (st.end + 4096) out out₁) where
  pub stepped_large : (depth left : ℕ) → r ≡ None → Stepped s f kind at depth st m out left (Some (at_limit left)) out₁
  stepped_large depth left e = record {
    exact = λ a F A {steps} {body} k label stands here room.
        let to = heads.exact a A.state.aliases k label (bound_here here) in
        let large = said_large (over_label A.state.aliases a) (head_of A.state.aliases a body) to.answer e in
        record {
          answer = rw (judge_step A here.free a F, large) (done_as (left + 1) limit (omega arith) refl refl);
          kept = wider within (omega arith) (omega (arith, here.early, room.long));
        };
  }

  pub stepped_all : {depth left : ℕ} {h : head.Head} {j : Option Judged} {after : List ℕ} → r ≡ Some h
      → AllSteps s f h depth st (take (h.channel - 0) (drop 0 channel)) (take (h.taken - 0) (drop 0 taken)) m out₁ left j after
      → Stepped s f kind at depth st m out left j after
  unfolding head_of here_kept within_kept
  stepped_all {depth} {left} {h} {j} {after} e steps = record {
    exact = λ a F A {steps = n} {body} {next} k label stands here room.
        let ρ = A.state.aliases in
        let to = heads.exact a ρ k label (bound_here here) in
        let (small, same) = said_head (over_label ρ a) (head_of ρ a body) to.answer e in
        let c : (head_of ρ a body).channel - 0 ≡ (head_of ρ a body).channel = omega arith in
        let t : (head_of ρ a body).taken - 0 ≡ (head_of ρ a body).taken = omega arith in
        let g = head_of ρ a body in
        let asked : Asked s f g.body depth st g.label (take (g.channel - 0) (drop 0 channel)) (take (g.taken - 0) (drop 0 taken)) m out₁ =
        record {
          label = a;
          formula = F;
          arrival = A;
          steps = n;
          next = next;
          same = refl;
          stands = stands;
          here = here_kept within here;
          room = room_kept refl within.long room;
          small = small;
          channelled = rw c (to.channelled small);
          taking = λ i. rw t (to.taking small i);
        } in
        let all = subst (λ (h : head.Head).
        AllSteps s f h depth st (take (h.channel - 0) (drop 0 channel)) (take (h.taken - 0) (drop 0 taken)) m out₁ left j after) same steps in
        let comes = all.exact asked in
        record {
          answer = comes.answer ∙ ap (judged_of (left + 1)) (sym (of_steps A a F here small));
          kept = one_after within comes.kept (omega arith) (omega arith) (omega (arith, here.early, room.long)) (omega (arith, within.long));
        };
  }
    where
      of_steps : (A : Arrival) (a : Label) (F : Formula) {n : ℕ} (here : Here s out st A n) → over_label A.state.aliases a ≡ false
          → judge (Formula.step a F) A
          ≡ some_of (judgements F A.state here.within.at.placed (taken_of A.state.aliases a)
          (moves_of (label_of_step a) (channel_of A.state.aliases a) A.state.next here.within.at.placed))
      of_steps A a F here small =
          judge_step A here.free a F ∙ rw small (ap some_of (judged_by F here.within.at.placed A.state a here.within.at.threads))

pub ruleset steppings = (stepped_large, stepped_all)

-- The messages of a head are within their slices.
module _ {r : Option head.Head} {h : head.Head} {n : ℕ} (short : Short r) (e : r ≡ Some h) (long : n ≡ 510) where
  pub channel_within : h.channel ≤ n
  channel_within = let (low, high) = short.there h e in omega arith

  pub taken_within : h.taken ≤ n
  taken_within = let (low, high) = short.there h e in omega arith

pub ruleset shortness = (channel_within, taken_within)
