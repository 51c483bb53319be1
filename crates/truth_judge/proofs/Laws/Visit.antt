-- A visit to a state, by the kind of the formula ("Judging and its count").
use Rattle.std.specs.Prelude.{Option, Some, None}
use mathlib.Core.Path.{◌≡◌, refl, sym, ap, subst, ◌∙◌}
use mathlib.Core.Bool.{Bool, true, false, not, ◌&&◌, ◌||◌}
use mathlib.Core.List.{List}
use Prim.Native.Nat.{ℕ, ◌+◌, ◌-◌, ◌≤◌, ◌<◌}
use native.Mathlib.Omega.{arith}
use lib.ListN.{length, get_or}
use Rattle.meaning.specs.Messages.Normal.{equal}
use Rattle.meaning.specs.Bytes.Formula.{Label, Formula}
use Rattle.meaning.specs.Steps.State.{written}
use Rattle.meaning.specs.Judging.{judge}
use Rattle.meaning.specs.Judging.Limits.{over}
use Rattle.meaning.specs.Judging.Visits.{Arrival}
use Rattle.buffer.specs.Buffer.{Within}
use Rattle.buffer.proofs.Laws.Buffer.{one_after, wider}
use Rattle.index_formula.specs.Index.{Ends}
use Rattle.message_binding.specs.Decide.{compared_of, Compares}
use Rattle.message_binding.specs.declared.decide.Compared.{Compared}
use Rattle.state_record.specs.declared.state.State as code
use Rattle.truth_label.specs.Place.{FormulaAt}
use Rattle.truth_label.proofs.Laws.Formula.{in_formula, kind_number, formula_kind, shaped, shaped_step, of_equal, of_not, of_and, of_step}
use Rattle.truth_body.specs.Judged.{done, at_limit}
use Rattle.truth_body.specs.Reached.{JudgingRoom, Here, Reached, Unchanged}
use Rattle.truth_judge.specs.Visit.{Judges, Visits, Equates, Negates, Conjoins, Seconds}
use Rattle.truth_judge.specs.Steps.{Stepped}
use Rattle.truth_body.specs.declared.judged.Judged.{Judged}
use Rattle.truth_body.proofs.Laws.Budget.{spent_as, done_as, counted}
use Rattle.truth_judge.proofs.Laws.Parts.{not_done, not_spent, and_done, and_spent, second_done, second_spent}
use Rattle.truth_body.proofs.Laws.Meets.{limit, compared, judge_over, judge_equal, judge_not, judge_and}
use Rattle.truth_body.proofs.Laws.Reached.{kept_same, here_kept, room_kept, bound_here}

-- A visit that goes no further.
module _ {s f m out : List ℕ} {at depth left : ℕ} (formed : Option code.State) where
  pub judges_spent : left ≡ 0 → Judges s f at depth formed m out left None out
  judges_spent e = record {
    exact = λ F A stands reached room. (spent_as left (judge F A) (omega (arith, counted F A)), kept_same formed out);
  }

  pub judges_over : formed ≡ None → (left ≡ 0 → ⊥) → Judges s f at depth formed m out left (Some (at_limit (left - 1))) out
  judges_over e some = record {
    exact = λ F A {steps} stands reached room.
        let over = rw e at reached in
        let positive : 0 < left = omega arith in
        (rw (judge_over F A over) (done_as left limit (omega arith) refl refl), kept_same formed out);
  }

  pub judges_at : {st : code.State} {r : Option Judged} {after : List ℕ} → formed ≡ Some st → (left ≡ 0 → ⊥)
      → Visits s f at depth st m out (left - 1) r after → Judges s f at depth formed m out left r after
  judges_at {st} {r} {after} e some visits = record {
    exact = λ F A {steps} stands reached room.
        let comes = visits.exact F A stands (subst (λ (g : Option code.State). Reached s out g A steps) e reached) room in
        let one : left - 1 + 1 ≡ left = omega arith in
        (rw one at comes.answer, subst (λ (g : Option code.State). Unchanged g out after) (sym e) comes.kept);
  }

pub ruleset judgings = (judges_spent, judges_over, judges_at)

-- Where no formula stands, or the state is none of those that are reached.
module _ {s f m out : List ℕ} {at depth left : ℕ} {st : code.State} where
  no_visit : {r : Option Judged} {after : List ℕ}
      → ((F : Formula) (A : Arrival) (steps next : ℕ) → FormulaAt f at depth steps (length A.state.aliases) F next → Here s out st A steps → JudgingRoom s m out → ⊥)
      → Visits s f at depth st m out left r after
  no_visit h = record { exact = λ F A {steps} {next} stands here room. absurd (h F A steps next stands here room) }

  pub no_depth : depth ≡ 0 → Visits s f at depth st m out left None out
  no_depth e = no_visit (λ F A steps next stands here room. omega (arith, (formula_kind F stands).2))

  pub no_formula : length f ≤ at → Visits s f at depth st m out left None out
  no_formula e = no_visit (λ F A steps next stands here room. omega (arith, (formula_kind F stands).1))

  pub long_model : 36864 < length s → Visits s f at depth st m out left None out
  long_model e = no_visit (λ F A steps next stands here room. omega (arith, room.short))

  pub no_bytes : length out < 65536 → Visits s f at depth st m out left None out
  no_bytes e = no_visit (λ F A steps next stands here room. omega (arith, room.long))

  pub too_late : 50592 < st.end → Visits s f at depth st m out left None out
  too_late e = no_visit (λ F A steps next stands here room. omega (arith, here.early))

  pub no_aliases : st.end < st.aliases → Visits s f at depth st m out left None out
  no_aliases e =
      no_visit (λ F A steps next stands here room. omega (arith, here.within.at.aliases.stands.size, here.within.at.records.size))

  pub visits_node : {r : Option Judged} {after : List ℕ} → (depth ≡ 0 → ⊥) → Visits s f at (depth - 1 + 1) st m out left r after
      → Visits s f at depth st m out left r after
  visits_node some v = let same : depth - 1 + 1 ≡ depth = omega arith in rw same at v

pub ruleset visitings = (no_depth, no_formula, long_model, no_bytes, too_late, no_aliases, visits_node)

-- The formula by its kind.
few_kinds : (F : Formula) → kind_number F < 6
few_kinds (Formula.equal M N) = omega arith
few_kinds (Formula.not F) = omega arith
few_kinds (Formula.and F G) = omega arith
few_kinds (Formula.step (Label.output C) F) = omega arith
few_kinds (Formula.step (Label.input C M) F) = omega arith
few_kinds (Formula.step Label.silent F) = omega arith

one_less : (n : ℕ) → n + 1 - 1 ≡ n
one_less n = omega arith

module _ {s f m out after : List ℕ} {at left : ℕ} {st : code.State} {r : Option Judged} (depth : ℕ) where
  pub node_equal : get_or f at 0 ≡ 0 → Equates f (at + 1) st out left r after → Visits s f at (depth + 1) st m out left r after
  node_equal e h = record {
    exact = λ F A {steps} {next} stands here room.
        let (M, N, same) = shaped 0 F stands e in
        let (mid, first, second) = of_equal M N (rw same at stands) in
        rw same (h.exact s m M N A first second here room);
  }

  pub node_not : get_or f at 0 ≡ 1 → Negates s f (at + 1) depth st m out left r after → Visits s f at (depth + 1) st m out left r after
  node_not e h = record {
    exact = λ F A {steps} {next} stands here room.
        let (G, same) = shaped 1 F stands e in
        let inner = rw (one_less depth) at (of_not G (rw same at stands)) in
        rw (same, judge_not A here.free G) (h.exact G A inner here room);
  }

  pub node_and : get_or f at 0 ≡ 2 → Conjoins s f (at + 1) depth st m out left r after → Visits s f at (depth + 1) st m out left r after
  node_and e h = record {
    exact = λ F A {steps} {next} stands here room.
        let (G, H, same) = shaped 2 F stands e in
        let (mid, first, second) = of_and G H (rw same at stands) in
        rw (same, judge_and A here.free G H) (h.exact G H A (rw (one_less depth) at first) (rw (one_less depth) at second) here room);
  }

  pub node_step : {k : ℕ} → k ≡ get_or f at 0 → (k ≡ 0 → ⊥) → (k ≡ 1 → ⊥) → (k ≡ 2 → ⊥)
      → Stepped s f k (at + 1) depth st m out left r after → Visits s f at (depth + 1) st m out left r after
  node_step byte a b c h = record {
    exact = λ F A {steps} {next} stands here room.
        let large : 3 ≤ get_or f at 0 = omega arith in
        let (l, G, same, kind) = shaped_step F stands large in
        let (body, label, inner, some) = of_step l G (rw same at stands) in
        let back : steps - 1 + 1 ≡ steps = omega arith in
        rw same (h.exact l G A (byte ∙ kind) label (rw (one_less depth) at inner) (rw back here) room);
  }

-- Where no kind has the byte, no formula stands.
pub no_kind : {s f m out : List ℕ} {at left : ℕ} {st : code.State} (depth : ℕ) → 6 ≤ get_or f at 0
    → Visits s f at (depth + 1) st m out left None out
no_kind depth e = no_visit (λ F A steps next stands here room. omega (arith, (formula_kind F stands).0, few_kinds F))

pub ruleset kinds = (node_equal, node_not, node_and, node_step, no_kind)

-- Two recipes.
said_large : (b : Bool) (n : ℕ) (t : Bool) {c : Option Compared} → c ≡ compared_of b n t → c ≡ None → b ≡ true
unfolding compared_of
said_large true n t e d = refl
said_large false n t e d = absurd (let z : ◌≡◌ {A = ℕ} 0 1 = cc in omega arith)

said_terms : (b : Bool) (n : ℕ) (t : Bool) {x : Compared} {c : Option Compared} → c ≡ compared_of b n t → c ≡ Some x
    → (b ≡ false) × (x.same ≡ t)
unfolding compared_of
said_terms true n t e d = absurd (let z : ◌≡◌ {A = ℕ} 0 1 = cc in omega arith)
said_terms false n t {x} e d =
    let same : record { next = n; same = t } ≡ x = cc in
    (refl, ap (λ y. y.same) (sym same))

module _ {f out out₁ : List ℕ} {at : ℕ} {st : code.State} {c : Option Compared} (compares : Compares f at out st.aliases st.end c)
    (within : Within st.end (st.end + 4606) out out₁) (left : ℕ) where
  stays : {s m : List ℕ} {A : Arrival} {steps : ℕ} → Here s out st A steps → JudgingRoom s m out → Within st.end (length out) out out₁
  stays here room = wider within (omega arith) (omega (arith, here.early, room.long))

  pub equates_large : c ≡ None → Equates f at st out left (Some (at_limit left)) out₁
  equates_large e = record {
    exact = λ s m M N A {steps} {mid} {next} first second here room.
        let ρ = A.state.aliases in
        let large = said_large (over ρ M || over ρ N) next (equal (written ρ M) (written ρ N)) (compares.exact M N ρ first second (bound_here here)) e in
        record {
          answer = rw (judge_equal A here.free M N, large) (done_as (left + 1) limit (omega arith) refl refl);
          kept = stays here room;
        };
  }

  pub equates_terms : {x : Compared} → c ≡ Some x → Equates f at st out left (done x.same false left) out₁
  equates_terms e = record {
    exact = λ s m M N A {steps} {mid} {next} first second here room.
        let ρ = A.state.aliases in
        let (small, same) = said_terms (over ρ M || over ρ N) next (equal (written ρ M) (written ρ N)) (compares.exact M N ρ first second (bound_here here)) e in
        record {
          answer = rw (judge_equal A here.free M N, small) (done_as (left + 1) (compared A M N) (omega arith) same refl);
          kept = stays here room;
        };
  }

pub ruleset equatings = (equates_large, equates_terms)

-- A formula inside this one is visited at the same state.
module _ {s f m out after : List ℕ} {at depth left : ℕ} {st : code.State} {r : Option Judged} (judges : Judges s f at depth (Some st) m out left r after) where
  pub negates_done : {d : Judged} {b : Bool} → r ≡ Some d → b ≡ not d.truth → Negates s f at depth st m out left (done b d.limited d.left) after
  negates_done {d} e g = record {
    exact = λ F A stands here room.
        let (answer, kept) = judges.exact F A stands here room in
        record { answer = ap (λ b. done b d.limited d.left) g ∙ not_done left (judge F A) answer e; kept = kept };
  }

  pub negates_spent : r ≡ None → Negates s f at depth st m out left None after
  negates_spent e = record {
    exact = λ F A stands here room.
        let (answer, kept) = judges.exact F A stands here room in
        record { answer = not_spent left (judge F A) answer e; kept = kept };
  }

  pub conjoins_spent : r ≡ None → Conjoins s f at depth st m out left None after
  conjoins_spent e = record {
    exact = λ F G A first second here room.
        let (answer, kept) = judges.exact F A first here room in
        record { answer = and_spent left (judge F A) answer (judge G A) e; kept = kept };
  }

  pub conjoins_both : {m₁ last : List ℕ} {mid : ℕ} {d : Judged} {v : Option Judged} → r ≡ Some d → length m₁ ≡ length m
      → length after ≡ length out → Ends f at mid
      → Seconds s f mid depth st m₁ after d v last → Conjoins s f at depth st m out left v last
  conjoins_both e lm lo ends second = record {
    exact = λ F G A {steps} {mid = mid'} {next} first stands here room.
        let (answer, kept) = judges.exact F A first here room in
        let same = ends.same F (in_formula first) in
        let there = subst (λ (n : ℕ). FormulaAt f n depth steps (length A.state.aliases) G next) (sym same) stands in
        let (both-answer, later) = second.exact G A there (here_kept kept here) (room_kept lm lo room) in
        record {
          answer = and_done left (judge F A) answer (judge G A) e both-answer;
          kept = one_after kept later (omega arith) (omega arith) (omega arith) (omega arith);
        };
  }

module _ {s f m out after : List ℕ} {at depth : ℕ} {st : code.State} {r : Option Judged} {sum : Judged}
    (judges : Judges s f at depth (Some st) m out sum.left r after) where
  pub seconds_done : {d : Judged} {a b : Bool} → r ≡ Some d → a ≡ (sum.truth && d.truth) → b ≡ (sum.limited || d.limited)
      → Seconds s f at depth st m out sum (done a b d.left) after
  seconds_done e p q = record {
    exact = λ G A stands here room.
        let (answer, kept) = judges.exact G A stands here room in (second_done sum (judge G A) answer e p q, kept);
  }

  pub seconds_spent : r ≡ None → Seconds s f at depth st m out sum None after
  seconds_spent e = record {
    exact = λ G A stands here room.
        let (answer, kept) = judges.exact G A stands here room in (second_spent sum (judge G A) answer e, kept);
  }

pub ruleset sides = (negates_done, negates_spent, conjoins_spent, conjoins_both, seconds_done, seconds_spent)
