-- The next silent step among all of them ("Steps").
use Rattle.std.specs.Prelude.{Option, Some, None}
use mathlib.Core.Path.{◌≡◌, refl, sym, subst, ◌∙◌}
use mathlib.Core.Logic.{inl, inr}
use mathlib.Core.List.{List, [], ◌∷◌, ◌++◌, flat_map}
use Prim.Native.Nat.{ℕ, ◌+◌, ◌-◌, ◌≤◌}
use native.Mathlib.Omega.{arith}
use lib.ListN.{length, length-append}
use Rattle.meaning.specs.Places.{Every}
use Rattle.meaning.proofs.Every.{every_map, every_split}
use Rattle.buffer.specs.Buffer.{Within}
use Rattle.state_record.specs.Record.{Placed, encode_records}
use Rattle.state_record.specs.declared.state.State as code
use Rattle.step_located.specs.CopyStep.{Pair, CopyStep}
use Rattle.step_located.proofs.Laws.Copies.{split_joined, split_at}
use Rattle.step_located.proofs.Laws.Everywhere.{every_mapped, every_flat_map, everywhere}
use Rattle.step_transition.specs.Focus.{Focus, focuses, copies_of, copy_steps_of}
use Rattle.step_transition.specs.Moves.{Move, inside, between, meetings, silent_moves}
use Rattle.step_transition.specs.Threads.{Threads}
use Rattle.step_transition.specs.Step.{step_of, Shown}
use Rattle.step_transition.specs.CopyMoves.{copy_moves, Roomy}
use Rattle.step_copies.specs.CopyStep.{NextInCopies}
use Rattle.step_transition.specs.Resumption.{Resumed}
use Rattle.step_between.specs.Buffered.{Resuming}
use Rattle.step_between.specs.Between.{Betweens}
use Rattle.step_transition.specs.Behind.{Behind, all, later}
use Rattle.step_next.specs.Next.{place_of, NextFrom}
use Rattle.step_label.specs.declared.step.Step as step
use Rattle.step_label.specs.declared.step.Label.TheVariants.{Silent}
use Rattle.step_transition.proofs.Laws.Threads.{threads_kept, threads_from}
use Rattle.step_transition.proofs.Laws.CopyMoves.{copy_moves_all, silent_moves_parts}
use Rattle.step_transition.proofs.Laws.SplitLists.{split_parts}
use Rattle.step_transition.proofs.Laws.CopyMovesResumed.{copy_moves_resumed}
use Rattle.step_transition.proofs.Laws.CopyMovesSilent.{Shared, both, meetings_shared}
use Rattle.step_between.proofs.Laws.BetweenMoves.{between_all}
use Rattle.step_copies.proofs.Laws.ReplThreads.{few_groups}
use Rattle.step_copies.proofs.Laws.CopyStep.{thread_at}
use Rattle.step_transition.proofs.Laws.Roomy.{still_roomy}
use Rattle.step_transition.proofs.Laws.Shown.{shown_none}
use Rattle.step_between.proofs.Laws.Buffered.{Unshared, answered_more, answered_unshared}

-- The steps of two threads.
abbrev pub meetings_all : (k : ℕ) → List Placed → List Move
meetings_all k ps = flat_map (meetings k (focuses ps)) (focuses ps)

-- A step of one thread.
pub data Single : Move → Type 0 where
  one : (p : Focus) (j : CopyStep) → Single (inside p j)

single_unshared : (w : Move) → Single w → Unshared w
single_unshared w (one p j) = tt

copies_single : (k : ℕ) (qs : List Focus) → Every Single (copy_moves k qs)
copies_single k qs =
    rw (copy_moves_all k qs) (every_flat_map _ (everywhere (λ p. every_mapped (inside p) (everywhere (one p) (copy_steps_of p.thread k))) qs))

-- A silent step stands among those of one thread, or among those of two.
pub data Stand (k : ℕ) (ps : List Placed) : Move → List Move → Type 0 where
  in-copies : {p : Focus} {j : CopyStep} (rest : List Move) → Every Single rest → Resumed k ps rest p j → Stand k ps (inside p j) (rest ++ meetings_all k ps)
  of_two : {p q : Focus} {v : Pair} {others : List Move} (earlier : List Move) → meetings_all k ps ≡ earlier ++ (between p q v ∷ others)
      → Stand k ps (between p q v) others

pub stand : (k : ℕ) (ps : List Placed) (earlier : List Move) (w : Move) (others : List Move) → silent_moves k ps ≡ earlier ++ (w ∷ others)
    → Stand k ps w others
stand k ps earlier w others e =
    elim (split_joined (copy_moves k (focuses ps)) (split_at earlier (sym (silent_moves_parts k ps) ∙ e))) [
      | inl t ↦
          let (r, s, f) = t in
          let (_, this, those) = every_split s (copies_single k (focuses ps)) in
          rw f (single r those this (split_parts s))
      | inr t ↦
          let shared = every_flat_map (meetings k (focuses ps)) (everywhere (meetings_shared k (focuses ps)) (focuses ps)) in
          pair t.0 (every_split t.1 shared).1 (split_parts t.1)
    ]
  where
    single : {w : Move} (r : List Move) → Every Single r → Single w → copy_moves k (focuses ps) ≡ earlier ++ (w ∷ r)
        → Stand k ps w (r ++ meetings_all k ps)
    single r those (one p j) g = in-copies r those (copy_moves_resumed k ps earlier r p j g)

    pair : {w : Move} (l : List Move) → Shared w → meetings_all k ps ≡ l ++ (w ∷ others) → Stand k ps w others
    pair l (both p q v) g = of_two l g

-- The position of a mark.
place_mark : (n : ℕ) → place_of (n + 1) ≡ n
unfolding place_of
place_mark n = omega arith

-- The search in copies behind a step.
abbrev JoinsFrom : (s : List ℕ) → code.State → (m out message : List ℕ) → Option step.Step → (said : List ℕ) → step.Step → Type 0
JoinsFrom s st m out message r said v =
    NextInCopies s v.sender.at st.names st.end m v.copy v.arity (place_of v.sender.mark) v.taker.mark 8193 out message r said

-- What is left in copies, before all steps of two threads.
record Copied (st : code.State) (r : Option step.Step) (said : List ℕ) (ps : List Placed) (others : List Move) : Type 0 where
  left : List Move
  alone : Every Single left
  shown : Shown st.start said r left
  rest : others ≡ left ++ meetings_all st.names ps

module _ (s : List ℕ) (st : code.State) (m out message : List ℕ) (r : Option step.Step) (said : List ℕ) (ps : List Placed)
    (threads : Threads s out st.start st.names ps st.end) (roomy : Roomy s out m message st.names st.end) where
  after_one : (w : Move) (others : List Move) → Stand st.names ps w others → ((step_of st.start w).arity ≡ 0 → ⊥)
      → JoinsFrom s st m out message r said (step_of st.start w) → Copied st r said ps others
  unfolding step_of
  after_one w others (of_two earlier g) e b = absurd (e refl)
  after_one w others (in-copies {p} {j} rest alone res) e b =
      let own = threads_from p.before (p.thread ∷ p.behind) (rw res.parts at threads) in
      let few : length (copies_of p.thread st.names) ≤ 4096 = few_groups p.thread (thread_at p.thread p.behind own roomy) in
      let long : length (copies_of p.thread st.names) ≡ length res.pre + length (res.w ∷ res.post) =
      rw res.listed (length-append res.pre (res.w ∷ res.post)) in
      let shown = b.later st.start p res.pre res.post res.w own roomy refl res.listed (rw res.meant) res.arity_low
      res.arity_high (omega (arith, few, long, res.arity_low)) in
      record { left = rest; alone = alone; shown = rw (place_mark j.pair.sender.place, res.left) at shown; rest = refl }

  one_behind : {from : step.Step} {others : List Move} → Behind Silent st.start (silent_moves st.names ps) from others
      → (from.arity ≡ 0 → ⊥) → JoinsFrom s st m out message r said from → Copied st r said ps others
  unfolding encode_records
  one_behind all e b =
      let here : st.start ≡ st.start + 0 = omega arith in
      record {
        left = copy_moves st.names (focuses ps);
        alone = copies_single st.names (focuses ps);
        shown = b.first st.start [] ps threads roomy here refl refl (omega arith);
        rest = silent_moves_parts st.names ps;
      }
  one_behind (later earlier w {others} f) e b = after_one w others (stand st.names ps earlier w others f) e b

-- What the functions promise.
module _ {s : List ℕ} {st : code.State} {from : step.Step} {m out channel message : List ℕ} where
  module _ {r₁ : Option step.Step} {said₁ : List ℕ} {x : ℕ} (p : x ≡ place_of from.sender.mark)
      (b' : NextInCopies s from.sender.at st.names st.end m from.copy from.arity x from.taker.mark 8193 out message r₁ said₁) where
    left_over : {ps : List Placed} {others : List Move} → (from.arity ≡ 0 → ⊥) → Threads s out st.start st.names ps st.end
        → Roomy s out m message st.names st.end → Resuming Silent st.start (silent_moves st.names ps) channel message from others
        → Copied st r₁ said₁ ps others
    left_over {ps} here threads roomy on = one_behind s st m out message r₁ said₁ ps threads roomy on.behind here (rw p at b')

    pub next_found : {v : step.Step} → r₁ ≡ Some v
        → NextFrom (λ v. v.arity ≡ 0 → ⊥) s st from m out channel message (Some v) channel said₁
    next_found {v} e = record {
      exact = λ ps here threads roomy long on.
          let c = left_over here threads roomy on in
          let shown : Shown st.start said₁ (Some v) c.left = subst (λ (n : Option step.Step). Shown st.start said₁ n c.left) e c.shown in
          rw c.rest (answered_more st.start channel said₁ v c.left (meetings_all st.names ps)
          (answered_unshared st.start channel said₁ (Some v) (every_map single_unshared c.alone) shown));
    }

    pub next_two : {m₁ out₁ on said : List ℕ} {r : Option step.Step} {low high : ℕ} → r₁ ≡ None → Within low high m m₁
        → Within st.end (length out) out out₁ → length said₁ ≡ length message
        → Betweens s st.start st.start st.names st.end m₁ 0 out₁ channel said₁ r on said
        → NextFrom (λ v. v.arity ≡ 0 → ⊥) s st from m out channel message r on said
    unfolding encode_records
    next_two {m₁} {out₁} {on} {said} {r} e wm wo l two = record {
      exact = λ ps here threads roomy long resuming.
          let c = left_over here threads roomy resuming in
          let start : st.start ≡ st.start + 0 = omega arith in
          let none : c.left ≡ [] =
          shown_none st.start said₁ c.left (subst (λ (n : Option step.Step). Shown st.start said₁ n c.left) e c.shown) in
          let shown = two.exact ps [] ps (threads_kept ps wo (omega arith) threads) (still_roomy wm wo l roomy) long refl start in
          rw (c.rest, none, between_all st.names ps) shown;
    }

  pub next_first : {r : Option step.Step} {on said : List ℕ} → from.arity ≡ 0
      → NextFrom (λ v. v.arity ≡ 0) s st from m out channel message r on said
      → NextFrom (λ v. Unit {0}) s st from m out channel message r on said
  next_first e f = record { exact = λ ps here. f.exact ps e }

  pub next_second : {r : Option step.Step} {on said : List ℕ} → (from.arity ≡ 0 → ⊥)
      → NextFrom (λ v. v.arity ≡ 0 → ⊥) s st from m out channel message r on said
      → NextFrom (λ v. Unit {0}) s st from m out channel message r on said
  next_second e f = record { exact = λ ps here. f.exact ps e }

pub ruleset silents = (next_found, next_two, next_first, next_second)

pub no_place : (n : ℕ) → n ≡ 0 → 0 ≡ place_of n
unfolding place_of
no_place n e = omega arith

pub some_place : (n : ℕ) → n - 1 ≡ place_of n
unfolding place_of
some_place n = refl

pub ruleset places = (no_place, some_place)
