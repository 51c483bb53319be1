-- The next step of whichever label ("Steps").
use Rattle.std.specs.Prelude.{Option}
use mathlib.Core.Path.{◌≡◌, refl, sym, subst}
use mathlib.Core.Bool.{Bool, true, false}
use mathlib.Core.List.{List}
use mathlib.Core.Logic.{◌⊎◌, inl, inr}
use Prim.Native.Nat.{ℕ}
use native.Mathlib.Omega.{arith}
use lib.ListN.{length}
use Rattle.meaning.specs.Messages.Term.{Message}
use Rattle.meaning.specs.Steps.State.{State}
use Rattle.meaning.specs.Places.{Every}
use Rattle.meaning.proofs.Every.{every_map, every_split}
use Rattle.buffer.specs.Buffer.{Within}
use Rattle.state_record.specs.declared.state.State as code
use Rattle.step_transition.specs.Moves.{Move, alone, inside, between, labelled_moves}
use Rattle.state_layout.specs.Loaded.{IsRunOf}
use Rattle.step_transition.specs.WithinLimits.{WithinLimits}
use Rattle.step_transition.specs.Step.{Shown}
use Rattle.step_transition.specs.CopyMoves.{Roomy}
use Rattle.step_visible.specs.Labelled.{NextLabelled}
use Rattle.step_transition.specs.Behind.{moves_of, arity_before, nobody_at, before, Behind, all, later, Searching}
use Rattle.step_between.specs.Buffered.{Answered, Resuming}
use Rattle.step_next.specs.Next.{Nexts, NextSilent}
use Rattle.step_label.specs.declared.step.Step as step
use Rattle.step_label.specs.declared.step.Label.{Label}
use Rattle.step_label.specs.declared.step.Label.TheVariants.{Output, Input, Silent}
use Rattle.step_located.proofs.Laws.Copies.{split_at}
use Rattle.step_transition.proofs.Laws.Start.{within_threads}
use Rattle.step_visible.proofs.Laws.LabelledBehind.{Offered, moves_offered}
use Rattle.step_between.proofs.Laws.Buffered.{Unshared, answered_unshared}
use Rattle.step_visible.proofs.Laws.LabelledMoves.{label_of, Asked, first_shown, later_shown}

-- Outputs and inputs.
module _ {s channel : List ℕ} {st : code.State} {m out message : List ℕ} {r : Option step.Step} {said : List ℕ} where
  labelled_shown : (sending : Bool) (S : State) (x : Message) (h : WithinLimits s out st S) → IsRunOf channel x → Searching s st m out message
      → {from : step.Step} {others : List Move} → NextLabelled s channel st from m out message r said → from.label ≡ label_of sending
      → Behind (label_of sending) st.start (labelled_moves sending x S.next h.at.placed) from others
      → Shown st.start said r others
  labelled_shown sending S x h l o {from} {others} n e b =
      let asked : Asked s channel st S h.at.placed x m out message =
      record {
        state = h.at;
        threads = within_threads h;
        channelled = l;
        short = o.short;
        work = o.wide;
        room = o.room;
        few = h.made;
        fits = o.long;
      } in
      of sending asked n e b
    where
      of : (sending : Bool) {from : step.Step} {others : List Move} → Asked s channel st S h.at.placed x m out message
          → NextLabelled s channel st from m out message r said → from.label ≡ label_of sending
          → Behind (label_of sending) st.start (labelled_moves sending x S.next h.at.placed) from others
          → Shown st.start said r others
      of true asked n e all = first_shown asked n true refl refl refl
      of false asked n e all = first_shown asked n false refl refl refl
      of true asked n e (later earlier w {others} f) = later_shown asked n true earlier w others f refl
      of false asked n e (later earlier w {others} f) = later_shown asked n false earlier w others f refl

-- What holds of all moves holds of those behind a step.
every_behind : {Q : Move → Type 0} {l : Label} {start : ℕ} {ws others : List Move} {v : step.Step} → Behind l start ws v others → Every Q ws
    → Every Q others
every_behind all h = h
every_behind (later earlier w e) h = (every_split (split_at earlier e) h).2

offered_unshared : (sending : Bool) (x : Message) (w : Move) → Offered sending x w → Unshared w
offered_unshared sending x (alone p a) o = tt
offered_unshared sending x (inside p j) o = absurd o
offered_unshared sending x (between p q v) o = absurd o

-- What the function promises.
module _ {s channel : List ℕ} {st : code.State} {from : step.Step} {m out message : List ℕ} {r : Option step.Step} {said : List ℕ} where
  labelled_next : (held : List ℕ) (sending : Bool) (S : State) (x : Message) (h : WithinLimits s out st S) → IsRunOf channel x → Searching s st m out message
      → {others : List Move} → NextLabelled s channel st from m out message r said → from.label ≡ label_of sending
      → Behind (label_of sending) st.start (labelled_moves sending x S.next h.at.placed) from others
      → Answered st.start held said r others
  labelled_next held sending S x h l o n e b =
      answered_unshared st.start held said r
      (every_map (offered_unshared sending x) (every_behind b (moves_offered sending x h.judged)))
      (labelled_shown sending S x h l o n e b)

  next_output : {held : List ℕ} → from.label ≡ Output → NextLabelled s channel st from m out message r said
      → Nexts s channel st from m out held message r held said
  next_output {held} e n = record {
    exact = λ S x h l o long {others} b.
        labelled_next held true S x h l o n e
        (subst (λ (k : Label). Behind k st.start (moves_of k x S.next h.at.placed) from others) e b.behind);
  }

  next_input : {held : List ℕ} → from.label ≡ Input → NextLabelled s channel st from m out message r said
      → Nexts s channel st from m out held message r held said
  next_input {held} e n = record {
    exact = λ S x h l o long {others} b.
        labelled_next held false S x h l o n e
        (subst (λ (k : Label). Behind k st.start (moves_of k x S.next h.at.placed) from others) e b.behind);
  }

  pub next_labelled : {held : List ℕ} → (from.label ≡ Output) ⊎ (from.label ≡ Input) → NextLabelled s channel st from m out message r said
      → Nexts s channel st from m out held message r held said
  next_labelled (inl e) n = next_output e n
  next_labelled (inr e) n = next_input e n

  pub next_silent : {held on : List ℕ} → from.label ≡ Silent → NextSilent s st from m out held message r on said
      → Nexts s channel st from m out held message r on said
  next_silent {held} e n = record {
    exact = λ S x h l o long {others} b.
        let same : S.next ≡ st.names = sym h.at.names in
        let roomy : Roomy s out m message st.names st.end =
        record { short = o.short; wide = o.wide; room = o.room; few = omega (arith, h.made, h.at.names); long = o.long } in
        let c = subst (λ (k : Label). Resuming k st.start (moves_of k x S.next h.at.placed) held message from others) e b in
        n.exact h.at.placed tt (rw same at (within_threads h)) roomy long (rw same at c);
  }

-- The place before the first step.
pub begins_before : (l : Label) (start : ℕ) {n : ℕ} → n ≡ arity_before l
    → record { label = l; arity = n; copy = 0; sender = nobody_at start; taker = nobody_at start; size = 0 } ≡ before l start
begins_before l start e = rw e

-- Slices of one length.
pub said_long : {low high : ℕ} {a b : List ℕ} → Within low high a b → length b ≡ length a
said_long w = w.long

pub ruleset nexts = (next_labelled, next_silent)
